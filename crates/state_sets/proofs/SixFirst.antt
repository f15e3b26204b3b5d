-- Six states tell the first value of a line.
use Rattle.std.proofs.Common.{◌≡◌, Bool, true, false, not, cond, refl, sym, ap₂, ◌∙◌}
use Rattle.state_sets.specs.StateAlgebra.{MaySteady}
use Rattle.state_sets.specs.SixStates.{six_states, six_state, six_first}
use Rattle.state_sets.specs.SixLaws.{six_laws}
use Rattle.state_sets.specs.FirstValues.{TellsFirst}

first_of : (steady first last : Bool) → MaySteady steady first last → six_first (six_state steady first last) ≡ first
first_of true true true may = refl
first_of true true false may = sym (may refl)
first_of true false true may = sym (may refl)
first_of true false false may = refl
first_of false true true may = refl
first_of false true false may = refl
first_of false false true may = refl
first_of false false false may = refl

same_bits : (last first : Bool) → cond last first (not first) ≡ true → last ≡ first
same_bits true true is = refl
same_bits true false is = absurd cc
same_bits false true is = absurd cc
same_bits false false is = refl

pub six_tells_first : TellsFirst six_states
six_tells_first s f l t g m may linked =
    same_bits l g
    (sym (ap₂ (λ last first. cond last first (not first)) (six_laws.of_last s f l) (first_of t g m may)) ∙ linked)
