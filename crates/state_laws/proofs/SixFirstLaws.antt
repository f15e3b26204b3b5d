-- The six states keep the laws of first values: each is computed at all of them.
use Rattle.std.proofs.Common.{Bool, not, refl}
use Rattle.netlist.specs.declared.op.Op.{Op}
use Rattle.state_sets.specs.declared.state.State.{State}
use Rattle.state_sets.specs.StateAlgebra.{joined_bit, same_bit}
use Rattle.state_sets.specs.ComputedLaws.{implies, implied, may_steady, may_steady_from, same_bit_tells, all_ops_at, at_two, tells_one, tells_two, tells_bits}
use Rattle.state_sets.specs.SixStates.{six_states, six_first}
use Rattle.state_laws.specs.FirstValues.{FirstLaws}

abbrev joins_test : Op → State → State → Bool
joins_test op x y = same_bit (six_first (six_states.join op x y)) (joined_bit op (six_first x) (six_first y))

abbrev inverts_test : State → Bool
inverts_test x = same_bit (six_first (six_states.invert x)) (not (six_first x))

abbrev of_first_test : Bool → Bool → Bool → Bool
of_first_test steady begins ends =
    implies (may_steady steady begins ends) (same_bit (six_first (six_states.of steady begins ends)) begins)

-- the six states keep the laws
pub six_first_laws : FirstLaws six_states six_first
six_first_laws = record {
  joins = λ op x y in_x in_y. same_bit_tells (six_first (six_states.join op x y)) (joined_bit op (six_first x) (six_first y))
      (tells_two 6 (joins_test op) (all_ops_at (λ o. at_two 6 (joins_test o)) refl op) x y in_x in_y);
  inverts = λ x in_x. same_bit_tells (six_first (six_states.invert x)) (not (six_first x)) (tells_one 6 inverts_test refl x in_x);
  of_first = λ steady begins ends may. same_bit_tells (six_first (six_states.of steady begins ends)) begins
      (implied (may_steady steady begins ends) _ (tells_bits of_first_test refl steady begins ends)
      (may_steady_from steady begins ends may));
  links = λ x y in_x in_y. refl;
}
