-- A change behind all others turns the value from its time on.
use Rattle.std.proofs.Common.{◌≡◌, List, [], ◌∷◌, ◌++◌, ℤ, ◌<ℤ◌, ap, sym, subst, ◌∙◌, arith, length, w64}
use Rattle.std.specs.List.{All}
use Rattle.std.proofs.lemmas.Int.{to_z-of_z}
use Rattle.std.proofs.lemmas.List.Quantifiers.{all_pairs_push}
use Rattle.std.proofs.lemmas.Result.{err_from_is_err_and}
use Rattle.delay_replay.specs.Changes.{Changes, AreTimesRising}
use Rattle.delay_replay.specs.AddedChanges.{IsTurned}
use Rattle.delay_replay.proofs.Turning.{alike, apart, turned_by_change, turned_by_none}
use Rattle.delay_replay.proofs.wave.Wave.turn.Goals as goal

pub returns-in_ok-push-clause-turned : goal.returns-in_ok-push-clause-turned
returns-in_ok-push-clause-turned c =
    let old = c.args.self.now in
    let time = c.args.time in
    let items = c.in_ok-push.ensures.items ∙ ap (λ t. c.self.inside.times.items ++ t ∷ []) (to_z-of_z w64 time c.ranges.time) in
    let many : length old.times ≡ length c.self.inside.times.items = ap (λ (w : Changes). length w.times) (sym c.self.view_is) in
    subst (λ (times : List ℤ). IsTurned old (record { before = c.self.inside.before; times = times }) time c.args.value) (sym items)
    (subst (λ (w : Changes). IsTurned old (record { before = w.before; times = w.times ++ time ∷ [] }) time c.args.value) (sym c.self.view_is)
    (turned_by_change old time c.args.value c.latest.result (subst (λ (w : Changes). AreTimesRising w.times) c.self.view_is c.self.invariant)
    c.requires c.latest.ensures c.if-latest-value.true (omega (arith, many, c.self.inside.times.ok.0))))

pub invariant_of-self-in_err-push : goal.invariant_of-self-in_err-push
invariant_of-self-in_err-push c = subst AreTimesRising (sym c.in_err-push.ensures.items) c.self.invariant

pub invariant_of-self : goal.invariant_of-self
invariant_of-self c =
    let old = c.self.inside.times.items in
    let time = c.args.time in
    let earlier = subst (λ (w : Changes). All (λ change. change <ℤ time) w.times) (sym c.self.view_is) c.requires in
    let items = c.in_ok-push.ensures.items ∙ ap (λ t. old ++ t ∷ []) (to_z-of_z w64 time c.ranges.time) in
    subst AreTimesRising (sym items) (all_pairs_push (λ a b. a <ℤ b) old time c.self.invariant earlier)

pub returns-else-latest-value-clause-turned : goal.returns-else-latest-value-clause-turned
returns-else-latest-value-clause-turned c =
    turned_by_none c.args.self.now c.args.time c.args.value
    (subst (λ (w : Changes). AreTimesRising w.times) c.self.view_is c.self.invariant) c.requires
    (λ other come. c.latest.ensures other come ∙ alike c.latest.result c.args.value c.if-latest-value.false)

pub returns-then-len-ge-MOST_CHANGES-clause-refused : goal.returns-then-len-ge-MOST_CHANGES-clause-refused
returns-then-len-ge-MOST_CHANGES-clause-refused c =
    let many : length c.args.self.now.times ≡ length c.self.inside.times.items =
    ap (λ (w : Changes). length w.times) (sym c.self.view_is) in (
      omega (arith, many, c.self.inside.times.ok.0),
      λ other come same. apart c.latest.result c.args.value c.if-latest-value.true (sym (c.latest.ensures other come) ∙ same),
    )

pub returns-in_err-push-clause-refused : goal.returns-in_err-push-clause-refused
returns-in_err-push-clause-refused c =
    let p = err_from_is_err_and c.from_residual.result c.from_residual.ensures.1 in
    rw (p.1, p.2) tt
