-- Whether the last change is no earlier decides which of the two ways it goes.
use Rattle.std.proofs.Common.{◌≡◌, ℕ, ◌-◌, ◌<◌, ℤ, ◌<ℤ◌, ◌≤ℤ◌, [], ◌∷◌, ◌++◌, true, false, get_or, length, ap, sym, subst, ◌∙◌, SFits, w64, rules, arith}
use Rattle.std.specs.Int.RustNames.{int_le}
use Rattle.std.specs.List.{All}
use Rattle.std.proofs.lemmas.Int.{ints, to_z-of_z}
use Rattle.std.proofs.lemmas.List.{get_or_default}
use Rattle.std.proofs.lemmas.List.Quantifiers.{all_pairs_push}
use Rattle.rise_fall.specs.Inside.Moving.IsPut.{behind}
use Rattle.rise_fall.proofs.Times.{all_before, put_by_pop}
use Rattle.rise_fall.proofs.copy.put.Goals.{else-kept-gt0-via-then-kept-gt0+else-time-index, else-kept-gt0-via-else-kept-gt0}
use Rattle.rise_fall.proofs.copy.put.Goals as goal

-- a test that passes, and one that fails
at_most : (a b : ℤ) → int_le a b ≡ true → a ≤ℤ b
at_most a b passes = omega (arith, ints)

above : (a b : ℤ) → int_le a b ≡ false → b <ℤ a
above a b fails = omega (arith, ints)

pub returns-then-time-index-clause-put : goal.returns-then-time-index-clause-put
returns-then-time-index-clause-put c =
    let old = c.args.times.now.items in
    let last = c.index.result.now in
    let fits : SFits w64 last = search rules in
    let range : SFits w64 c.args.time = c.ranges.time in
    let count : length old ≡ c.len-kept.result = omega (arith, c.args.times.now.ok.0) in
    let upto = at_most c.args.time last (simp to_z-of_z at c.if-time-index.true) in
    put_by_pop old c.pop.new.self.items c.pop.result c.args.time (c.pop.ensures.variant.1 (omega arith)) c.pop.ensures.items
    (λ d. subst (λ t. c.args.time ≤ℤ t)
    (c.index.ensures ∙ ap (λ n. get_or old (n - 1) last) (sym count) ∙ get_or_default old (length old - 1) last d (omega arith))
    upto)

-- all that are kept come earlier
all_earlier : (c : goal.After-push_reserved) → All (λ change. change <ℤ c.args.time) c.args.times.now.items
all_earlier c =
    let old = c.args.times.now.items in
    let count : length old ≡ c.len-kept.result = omega (arith, c.args.times.now.ok.0) in
    all_before old c.args.time c.requires.rising
    (elim c.else-kept-gt0.branch [
      | else-kept-gt0-via-then-kept-gt0+else-time-index w ↦ λ some d.
          let last = w.index.result.now in
          let fits : SFits w64 last = search rules in
          let range : SFits w64 c.args.time = c.ranges.time in
          subst (λ t. t <ℤ c.args.time)
          (w.index.ensures ∙ ap (λ n. get_or old (n - 1) last) (sym count) ∙ get_or_default old (length old - 1) last d (omega arith))
          (above c.args.time last (simp to_z-of_z at w.if-time-index.false))
      | else-kept-gt0-via-else-kept-gt0 w ↦ λ some d. absurd (omega arith)
    ])

-- the items with the new one
with_time : (c : goal.After-push_reserved) → c.push_reserved.new.self.items ≡ c.args.times.now.items ++ c.args.time ∷ []
with_time c =
    c.push_reserved.ensures.items ∙ ap (λ t. c.args.times.now.items ++ t ∷ []) (to_z-of_z w64 c.args.time c.ranges.time)

pub returns-else-kept-gt0-clause-rising : goal.returns-else-kept-gt0-clause-rising
returns-else-kept-gt0-clause-rising c =
    subst (λ times. (i j : ℕ) (d : ℤ) → i < j → j < length times → get_or times i d <ℤ get_or times j d) (sym (with_time c))
    (all_pairs_push (λ a b. a <ℤ b) c.args.times.now.items c.args.time c.requires.rising (all_earlier c))

pub returns-else-kept-gt0-clause-put : goal.returns-else-kept-gt0-clause-put
returns-else-kept-gt0-clause-put c = behind (all_earlier c) (with_time c)
