-- Kinds of states in which first values are made of first values alone; and gates near the end of a path, with the links of near sources:
-- what is behind these links is asked for its first values alone (this project's own).
use Rattle.std.specs.Prelude.{◌≡◌, ℕ, ◌<◌, Bool, true, not, All}
use Rattle.pd_base.specs.Links.{LinkList, IsLink}
use Rattle.netlist.specs.declared.op.Op.{Op}
use Rattle.netlist.specs.Circuit.{Circuit, gate_count, pins_at}
use Rattle.state_sets.specs.declared.state.State.{State}
use Rattle.state_sets.specs.StateAlgebra.{StateAlgebra, MaySteady, joined_bit, same_bit}
use Rattle.state_laws.specs.Cones.{IsLineWithin}

-- Each state has a first value. That of a join is the operation's bit of the first values, and that of an inversion is the other bit; the
-- state of a line has its first value; and a source in one state may be linked to a line in another one exactly where its last value is
-- the line's first one.
pub record FirstLaws (a : StateAlgebra) (first : State → Bool) : Type 0 where
  pub joins : (op : Op) (x y : State) → x.0 < a.count → y.0 < a.count → first (a.join op x y) ≡ joined_bit op (first x) (first y)
  pub inverts : (x : State) → x.0 < a.count → first (a.invert x) ≡ not (first x)
  pub of_first : (steady begins ends : Bool) → MaySteady steady begins ends → first (a.of steady begins ends) ≡ begins
  pub links : (x y : State) → x.0 < a.count → y.0 < a.count → a.link x y ≡ same_bit (a.last x) (first y)

-- Gates near, and of these links the inner ones: the lines that pins of near gates read are near too, each a source all of whose links are
-- inner, or the line of a near gate. Of the lines to which inner links go nothing is asked.
pub record IsNear (c : Circuit) (near : ℕ → Bool) (links inner : LinkList) : Type 0 where
  pub pins : (gate : ℕ) → gate < gate_count c → near gate ≡ true → All (λ pin. IsLineWithin c near links inner pin.0) (pins_at c gate)
  pub among : (source line : ℕ) → IsLink inner source line → IsLink links source line
