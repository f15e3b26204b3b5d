-- Four states of a line under a pair: steady at 0, steady at 1, not steady and 0 at last, not steady and 1 at last (this
-- project's own).
use Rattle.std.specs.Prelude.{◌==◌, Bool, true, false, not, cond, nat_lt, ◌&&◌, ◌||◌}
use Rattle.state_sets.specs.declared.state.State.{State}
use Rattle.netlist.specs.declared.op.Op.{Op}
use Rattle.netlist.specs.declared.op.Op.TheVariants.{And, Or, Xor}
use Rattle.state_sets.specs.StateAlgebra.{StateAlgebra, joined_bit, unit_bit}

-- the state that is steady or not and has this last value
abbrev pub four_state : Bool → Bool → State
four_state true false = record { 0 = 0 }
four_state true true = record { 0 = 1 }
four_state false false = record { 0 = 2 }
four_state false true = record { 0 = 3 }

-- the state is steady
abbrev pub four_steady : State → Bool
four_steady state = nat_lt state.0 2

-- the last value of the state
abbrev pub four_last : State → Bool
four_last state = (state.0 == 1) || (state.0 == 3)

-- whether a join of two states is steady: where both are, and where one is steady at the value that decides an AND or an OR
abbrev pub four_stays : Op → State → State → Bool
four_stays And a b = (four_steady a && four_steady b) || ((a.0 == 0) || (b.0 == 0))
four_stays Or a b = (four_steady a && four_steady b) || ((a.0 == 1) || (b.0 == 1))
four_stays Xor a b = four_steady a && four_steady b

-- a source may be in state a where its line is in state c, unless c is steady at a value that is not the last one of a
abbrev pub four_link : State → State → Bool
four_link a c = not (four_steady c && cond (four_last a) (not (four_last c)) (four_last c))

-- the four states with their operations
abbrev pub four_states : StateAlgebra
four_states = record {
  count = 4;
  join = λ op a b. four_state (four_stays op a b) (joined_bit op (four_last a) (four_last b));
  unit = λ op. four_state true (unit_bit op);
  invert = λ a. four_state (four_steady a) (not (four_last a));
  last = four_last;
  steady = four_steady;
  sources = record { 0 = 15 };
  link = four_link;
  of = λ steady first last. four_state steady last;
}
