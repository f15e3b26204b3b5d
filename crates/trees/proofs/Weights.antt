-- How many combinations of steadiness and last value the rules and the halves above a node leave a source, and how a split parts them:
-- these two bits of a state decide whether it is in a half of a split at a source.
use Rattle.std.proofs.Common.{◌≡◌, ◌≢◌, ℕ, ◌+◌, ◌≤◌, Bool, true, false, cond, not, ◌&&◌, ◌==◌, List, [], ◌∷◌, ◌++◌, refl, sym, ap, ◌∙◌, arith, eq-eqb}
use Rattle.std.specs.Prelude.{All}
use Rattle.std.proofs.lemmas.List.Elements.{All-tail}
use Rattle.std.proofs.lemmas.Bool.{eqb-true}
use Rattle.pd_base.specs.declared.rules.Rules.{Rules}
use Rattle.pd_base.specs.declared.rules.Rules.TheVariants.{One, Two, Linked}
use Rattle.state_sets.specs.declared.state.State.{State}
use Rattle.state_sets.specs.StateAlgebra.{StateAlgebra, same_bit}
use Rattle.state_sets.specs.Starts.{IsOtherStart}
use Rattle.state_laws.specs.declared.split.SplitKind.{SplitKind}
use Rattle.state_laws.specs.declared.split.SplitKind.TheVariants.{LastValue, Steadiness, FirstValue}
use Rattle.state_laws.specs.declared.split.Split.{Split}
use Rattle.state_laws.specs.declared.split.Half.{Half}
use Rattle.state_laws.specs.Halves.{IsInHalf, half_of}
use Rattle.state_laws.specs.Nodes.{IsCut}
use Rattle.trees.specs.Bounds.{states_of_source}
use Rattle.trees.specs.Trees.{IsSourceKind}
use Rattle.trees.specs.Refutations.{below}

-- whether a state that is steady or not and has this last value may be in a half: these bits tell nothing of first values
abbrev pub in_half : SplitKind → (second steady last : Bool) → Bool
in_half LastValue second steady last = same_bit last second
in_half Steadiness second steady last = same_bit steady (not second)
in_half FirstValue second steady last = true

-- whether the half, if it is one of this source, leaves it such a state
abbrev pub leaves_one : ℕ → Half → (steady last : Bool) → Bool
leaves_one source half steady last = cond (source == half.split.line.0) (in_half half.split.kind half.second steady last) true

-- whether a source that is not the path's own may start in a state that is steady or not
abbrev pub may_start_in : Rules → (steady : Bool) → Bool
may_start_in One steady = true
may_start_in Two steady = steady
may_start_in (Linked links) steady = true

-- whether it may, and all halves leave it such a state
abbrev pub leaves_all : Rules → List Half → ℕ → (steady last : Bool) → Bool
leaves_all rules [] source steady last = may_start_in rules steady
leaves_all rules (half ∷ halves) source steady last = leaves_one source half steady last && leaves_all rules halves source steady last

-- 1 for a test that passes
abbrev pub one_if : Bool → ℕ
one_if true = 1
one_if false = 0

-- how many combinations of two bits pass a test
abbrev pub count_bits : (Bool → Bool → Bool) → ℕ
count_bits test = one_if (test true true) + one_if (test true false) + one_if (test false true) + one_if (test false false)

-- how many combinations the rules and the halves leave a source
abbrev pub states_left : Rules → List Half → ℕ → ℕ
states_left rules halves source = count_bits (leaves_all rules halves source)

-- without halves these are all in which it may start
pub states_at_first : (rules : Rules) (source : ℕ) → states_left rules [] source ≡ states_of_source rules
states_at_first One source = refl
states_at_first Two source = refl
states_at_first (Linked links) source = refl

same_bit_itself : (a b : Bool) → a ≡ b → same_bit a b ≡ true
same_bit_itself true true e = refl
same_bit_itself false false e = refl
same_bit_itself true false e = sym e
same_bit_itself false true e = e

both_pass : (a b : Bool) → a ≡ true → b ≡ true → (a && b) ≡ true
both_pass a b is_a is_b = cc

module _ (a : StateAlgebra) (state : State) where
  -- a state in a half passes the test of it
  pub in_half_passes : (kind : SplitKind) (second : Bool) → IsInHalf a kind second state
      → in_half kind second (a.steady state) (a.last state) ≡ true
  in_half_passes LastValue second is = same_bit_itself (a.last state) second is
  in_half_passes Steadiness second is = same_bit_itself (a.steady state) (not second) is
  in_half_passes FirstValue second is = refl

  one_passes : (source : ℕ) (half : Half) → IsCut a source state half → leaves_one source half (a.steady state) (a.last state) ≡ true
  one_passes source half cut = by (source == half.split.line.0) (λ e. eqb-true source half.split.line.0 e)
    where
      by : (same : Bool) → (same ≡ true → source ≡ half.split.line.0)
          → cond same (in_half half.split.kind half.second (a.steady state) (a.last state)) true ≡ true
      by true tells = in_half_passes half.split.kind half.second (cut (tells refl))
      by false tells = refl

  start_passes : (rules : Rules) → IsOtherStart a rules state → may_start_in rules (a.steady state) ≡ true
  start_passes One start = refl
  start_passes Two start = start
  start_passes (Linked links) start = refl

  -- a state in which the source may start, and which all halves cut out, passes
  pub cut_passes : (rules : Rules) (halves : List Half) (source : ℕ) → IsOtherStart a rules state
      → All (IsCut a source state) halves → leaves_all rules halves source (a.steady state) (a.last state) ≡ true
  cut_passes rules [] source start cut = start_passes rules start
  cut_passes rules (half ∷ halves) source start cut =
      both_pass (leaves_one source half (a.steady state) (a.last state)) (leaves_all rules halves source (a.steady state) (a.last state))
      (one_passes source half (cut 0 half (omega arith)))
      (cut_passes rules halves source start (All-tail (IsCut a source state) half halves cut))

-- what passes is counted
pub counted : (test : Bool → Bool → Bool) (steady last : Bool) → test steady last ≡ true → 1 ≤ count_bits test
counted test true true passes = rw passes (omega arith)
counted test true false passes = rw passes (omega arith)
counted test false true passes = rw passes (omega arith)
counted test false false passes = rw passes (omega arith)

-- one half more behind the others
pub leaves_more : (rules : Rules) (halves : List Half) (half : Half) (source : ℕ) (steady last : Bool)
    → leaves_all rules (halves ++ half ∷ []) source steady last ≡ (leaves_all rules halves source steady last && leaves_one source half steady last)
leaves_more rules [] half source steady last = by (leaves_one source half steady last) (may_start_in rules steady)
  where
    by : (a b : Bool) → (a && b) ≡ (b && a)
    by true true = refl
    by true false = refl
    by false true = refl
    by false false = refl
leaves_more rules (first ∷ halves) half source steady last =
    ap (λ b. leaves_one source first steady last && b) (leaves_more rules halves half source steady last)
    ∙ by (leaves_one source first steady last) (leaves_all rules halves source steady last) (leaves_one source half steady last)
  where
    by : (a b c : Bool) → (a && (b && c)) ≡ ((a && b) && c)
    by true b c = refl
    by false b c = refl

-- a half of another source leaves a source all its states
pub other_stays : (rules : Rules) (halves : List Half) (split : Split) (second : Bool) (source : ℕ) → source ≢ split.line.0
    → states_left rules (below halves split second) source ≡ states_left rules halves source
other_stays rules halves split second source other = cong4 (same true true) (same true false) (same false true) (same false false)
  where
    by : (same : Bool) → (same ≡ true → source ≡ split.line.0) → (a b : Bool) → (a && cond same b true) ≡ a
    by true tells a b = absurd (other (tells refl))
    by false tells true b = refl
    by false tells false b = refl

    same : (steady last : Bool)
        → leaves_all rules (below halves split second) source steady last ≡ leaves_all rules halves source steady last
    same steady last =
        leaves_more rules halves (half_of split second) source steady last
        ∙ by (source == split.line.0) (λ e. eqb-true source split.line.0 e) (leaves_all rules halves source steady last)
        (in_half split.kind second steady last)

    cong4 : {a b c d p q r s : Bool} → a ≡ p → b ≡ q → c ≡ r → d ≡ s
        → one_if a + one_if b + one_if c + one_if d ≡ one_if p + one_if q + one_if r + one_if s
    cong4 e f g h = cc

-- a split by the last value or the steadiness parts the states of its source
pub split_parts : (rules : Rules) (halves : List Half) (split : Split) → IsSourceKind split.kind
    → states_left rules halves split.line.0
    ≡ states_left rules (below halves split false) split.line.0 + states_left rules (below halves split true) split.line.0
split_parts rules halves split is =
    omega (arith, parts true true, parts true false, parts false true, parts false false)
  where
    itself : (split.line.0 == split.line.0) ≡ true
    itself = eq-eqb split.line.0 split.line.0 refl

    halved : (a b : Bool) → one_if a ≡ one_if (a && same_bit b false) + one_if (a && same_bit b true)
    halved true true = refl
    halved true false = refl
    halved false true = refl
    halved false false = refl

    halved_too : (a b : Bool) → one_if a ≡ one_if (a && same_bit b true) + one_if (a && same_bit b false)
    halved_too true true = refl
    halved_too true false = refl
    halved_too false true = refl
    halved_too false false = refl

    by : (kind : SplitKind) → IsSourceKind kind → (a steady last : Bool)
        → one_if a ≡ one_if (a && in_half kind false steady last) + one_if (a && in_half kind true steady last)
    by LastValue may a steady last = halved a last
    by Steadiness may a steady last = halved_too a steady
    by FirstValue may a steady last = absurd may

    parts : (steady last : Bool) → one_if (leaves_all rules halves split.line.0 steady last)
        ≡ one_if (leaves_all rules (below halves split false) split.line.0 steady last)
        + one_if (leaves_all rules (below halves split true) split.line.0 steady last)
    parts steady last =
        let here : Bool = leaves_all rules halves split.line.0 steady last in
        let first = leaves_more rules halves (half_of split false) split.line.0 steady last in
        let second = leaves_more rules halves (half_of split true) split.line.0 steady last in
        by split.kind is here steady last
        ∙ ap (λ b. one_if (here && cond b (in_half split.kind false steady last) true)
        + one_if (here && cond b (in_half split.kind true steady last) true)) (sym itself)
        ∙ ap (λ b. one_if b + one_if (here && cond (split.line.0 == split.line.0) (in_half split.kind true steady last) true)) (sym first)
        ∙ ap (λ b. one_if (leaves_all rules (below halves split false) split.line.0 steady last) + one_if b) (sym second)
