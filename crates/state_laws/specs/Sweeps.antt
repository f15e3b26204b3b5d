-- What labels are while they are narrowed again and again (this project's own).
use Rattle.std.specs.Prelude.{List}
use Rattle.netlist.specs.Circuit.{Circuit}
use Rattle.state_sets.specs.declared.state.StateSet.{StateSet}
use Rattle.state_sets.specs.StateAlgebra.{StateAlgebra}
use Rattle.state_sets.specs.Labellings.{IsLabelling, LiesIn}
use Rattle.state_sets.specs.Hulls.{Narrowing, IsAtRest}

-- the new labels lie in the old ones, and so that each labelling at rest that lies in the old ones still lies in the new
pub record KeepsRests (a : StateAlgebra) (c : Circuit) (Narrowings : Narrowing → Type 0) (old new : List StateSet) : Type 0 where
  pub labelling : IsLabelling a.count c new
  pub inside : LiesIn a.count new old
  pub keeps : (other : List StateSet) → IsLabelling a.count c other → IsAtRest a c Narrowings other → LiesIn a.count other old
      → LiesIn a.count other new
