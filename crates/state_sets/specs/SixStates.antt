-- Six states of a line under a pair: steady at 0, steady at 1, and not steady, with its values under the two vectors (this project's
-- own).
use Rattle.std.specs.Prelude.{◌==◌, Bool, true, false, not, cond, nat_lt, ◌||◌}
use Rattle.state_sets.specs.declared.state.State.{State}
use Rattle.state_sets.specs.StateAlgebra.{StateAlgebra, joined_bit, unit_bit, stays}

-- the state that is steady or not and has these values under the two vectors, which are one where it is steady
abbrev pub six_state : Bool → Bool → Bool → State
six_state true first false = record { 0 = 0 }
six_state true first true = record { 0 = 1 }
six_state false false false = record { 0 = 2 }
six_state false false true = record { 0 = 3 }
six_state false true false = record { 0 = 4 }
six_state false true true = record { 0 = 5 }

-- the state is steady
abbrev pub six_steady : State → Bool
six_steady state = nat_lt state.0 2

-- the first value of the state
abbrev pub six_first : State → Bool
six_first state = (state.0 == 1) || ((state.0 == 4) || (state.0 == 5))

-- and its last value
abbrev pub six_last : State → Bool
six_last state = (state.0 == 1) || ((state.0 == 3) || (state.0 == 5))

-- the six states with their operations; a source has one bit under each vector, so it is steady or changes; and its last value is
-- the first one of the line to which it is linked
abbrev pub six_states : StateAlgebra
six_states = record {
  count = 6;
  join = λ op a b. six_state (stays op (six_steady a) (six_last a) (six_steady b) (six_last b))
      (joined_bit op (six_first a) (six_first b)) (joined_bit op (six_last a) (six_last b));
  unit = λ op. six_state true (unit_bit op) (unit_bit op);
  invert = λ a. six_state (six_steady a) (not (six_first a)) (not (six_last a));
  last = six_last;
  steady = six_steady;
  sources = record { 0 = 27 };
  link = λ a c. cond (six_last a) (six_first c) (not (six_first c));
  of = six_state;
}
