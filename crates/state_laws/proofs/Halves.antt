-- Each pair of vectors lies in a half of each split.
use Rattle.std.proofs.Common.{◌≡◌, ◌⊎◌, inl, inr, ℕ, Bool, true, false, refl, subst}
use Rattle.pd_base.specs.Pair.{Vectors}
use Rattle.netlist.specs.Circuit.{Circuit}
use Rattle.netlist.specs.Lawful.{IsCircuit}
use Rattle.netlist.specs.Steadiness.{is_steady}
use Rattle.netlist.specs.Values.{value}
use Rattle.state_sets.specs.declared.state.State.{State}
use Rattle.state_sets.specs.StateAlgebra.{StateAlgebra, HasLaws}
use Rattle.state_sets.specs.LineStates.{state_under}
use Rattle.state_laws.specs.declared.split.SplitKind.{SplitKind}
use Rattle.state_laws.specs.declared.split.SplitKind.TheVariants.{LastValue, Steadiness, FirstValue}
use Rattle.state_laws.specs.declared.split.Split.{Split}
use Rattle.state_laws.specs.Halves.{IsInHalf, half_of, LiesInHalf}
use Rattle.state_laws.proofs.PairStates.{line_may}

zero_or_one : (bit : Bool) → (bit ≡ false) ⊎ (bit ≡ true)
zero_or_one false = inl refl
zero_or_one true = inr refl

one_or_zero : (bit : Bool) → (bit ≡ true) ⊎ (bit ≡ false)
one_or_zero true = inl refl
one_or_zero false = inr refl

module _ (a : StateAlgebra) (laws : HasLaws a) (c : Circuit) (circuit : IsCircuit c) (pair : Vectors) where
  -- a source that is steady at the line's value under the first vector may be linked to it
  begins_so : (line : ℕ) → (bit : Bool) → value c pair.first line ≡ bit → IsInHalf a FirstValue bit (state_under a c pair line)
  begins_so line bit is =
      subst (λ b. a.link (a.of true b b) (state_under a c pair line) ≡ true) is
      (laws.of_links true (value c pair.first line) (value c pair.first line) (is_steady c pair line) (value c pair.second line)
      (line_may a laws c circuit pair line))

  in_one : (kind : SplitKind) (line : ℕ)
      → IsInHalf a kind false (state_under a c pair line) ⊎ IsInHalf a kind true (state_under a c pair line)
  in_one LastValue line = zero_or_one (a.last (state_under a c pair line))
  in_one Steadiness line = one_or_zero (a.steady (state_under a c pair line))
  in_one FirstValue line = by (value c pair.first line) (λ bit is. begins_so line bit is)
    where
      by : (first : Bool) → ((bit : Bool) → first ≡ bit → IsInHalf a FirstValue bit (state_under a c pair line))
          → IsInHalf a FirstValue false (state_under a c pair line) ⊎ IsInHalf a FirstValue true (state_under a c pair line)
      by false begins = inl (begins false refl)
      by true begins = inr (begins true refl)

  -- one half or the other
  pub lies_in_one : (split : Split) → LiesInHalf a c pair (half_of split false) ⊎ LiesInHalf a c pair (half_of split true)
  lies_in_one split = in_one split.kind split.line.0
