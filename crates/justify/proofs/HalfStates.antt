-- The halves of a split: what a set of states of a source has where no split has both.
use Rattle.std.proofs.Common.{◌≡◌, Bool, true, false, not, cond, refl, sym, ap₂, ◌∙◌}
use Rattle.state_sets.specs.declared.state.State.{State}
use Rattle.state_sets.specs.declared.state.StateSet.{StateSet}
use Rattle.state_sets.specs.States.{Has}
use Rattle.state_sets.specs.StateAlgebra.{StateAlgebra, HasLaws}
use Rattle.state_laws.specs.declared.split.SplitKind.{SplitKind}
use Rattle.state_laws.specs.declared.split.SplitKind.TheVariants.{LastValue, Steadiness}
use Rattle.state_laws.specs.Halves.{IsInHalf}
use Rattle.trees.specs.Spent.{HasInHalf}
use Rattle.justify.specs.Trying.{IsSingle}

not_moving : (x second : Bool) → not x ≡ second → x ≡ not second
not_moving true true e = cc
not_moving true false e = refl
not_moving false true e = refl
not_moving false false e = cc

not_same : (x y : Bool) → not x ≡ not y → x ≡ y
not_same true true e = refl
not_same true false e = cc
not_same false true e = cc
not_same false false e = refl

module _ (a : StateAlgebra) (set : StateSet) where
  -- a bit that is not both values on a set is one value on it
  one_value : (kind : SplitKind) (both : HasInHalf a set kind false → HasInHalf a set kind true → ⊥)
      → (one other : State) → Has a.count set one → Has a.count set other → (bit : State → Bool)
      → ((state : State) (second : Bool) → bit state ≡ second → IsInHalf a kind second state) → bit one ≡ bit other
  one_value kind both one other has_one has_other bit half =
      by (bit one) (bit other) refl refl
    where
      by : (x y : Bool) → bit one ≡ x → bit other ≡ y → bit one ≡ bit other
      by true true of_one of_other = of_one ∙ sym of_other
      by false false of_one of_other = of_one ∙ sym of_other
      by true false of_one of_other = absurd (both (other, has_other, half other false of_other) (one, has_one, half one true of_one))
      by false true of_one of_other = absurd (both (one, has_one, half one false of_one) (other, has_other, half other true of_other))

  -- a set of states of a source that has both halves of neither kind of split has one state at most
  pub no_split_is_single : HasLaws a → ((state : State) → Has a.count set state → Has a.count a.sources state)
      → (HasInHalf a set LastValue false → HasInHalf a set LastValue true → ⊥) → (HasInHalf a set Steadiness false → HasInHalf a set Steadiness true → ⊥)
      → IsSingle a.count set
  no_split_is_single laws sources one_last one_steadiness one other has_one has_other =
      let last = one_value LastValue one_last one other has_one has_other a.last (λ state second e. e) in
      let steady = not_same (a.steady one) (a.steady other)
      (one_value Steadiness one_steadiness one other has_one has_other (λ state. not (a.steady state))
      (λ state second e. not_moving (a.steady state) second e)) in
      let made : Bool → Bool → State = λ s l. a.of s (cond s l (not l)) l in
      sym (laws.source_of one (sources one has_one)) ∙ ap₂ made steady last ∙ laws.source_of other (sources other has_other)

  -- a state in each half
  pub in_both : (kind : SplitKind) → HasInHalf a set kind false × HasInHalf a set kind true → (second : Bool)
      → HasInHalf a set kind second
  in_both kind both false = both.0
  in_both kind both true = both.1
