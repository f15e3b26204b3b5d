-- Why a pair of vectors that is tried is none that is looked for (this project's own).
use Rattle.std.specs.Prelude.{◌≡◌, ℕ, false, List}
use Rattle.pd_base.specs.Links.{LinkList, IsLink}
use Rattle.pd_base.specs.Pair.{Vectors}
use Rattle.pd_base.specs.Target.{Target}
use Rattle.netlist.specs.Circuit.{Circuit}
use Rattle.netlist.specs.Conditions.{Meets}
use Rattle.netlist.specs.LinkedPairs.{IsSupported}
use Rattle.netlist.specs.Paths.{end_of}
use Rattle.state_sets.specs.declared.state.StateSet.{StateSet}
use Rattle.state_sets.specs.States.{Has}
use Rattle.state_sets.specs.StateAlgebra.{StateAlgebra}
use Rattle.state_sets.specs.LineStates.{state_under}
use Rattle.state_sets.specs.Labellings.{label_at}

-- Why a pair of vectors fails: under it a line of the support has a state that its label has not, or a source there and the line to which it
-- is linked have states that may not be linked, or it does not meet the conditions.
pub data FailsTrial (a : StateAlgebra) (c : Circuit) (links : LinkList) (target : Target) (labels : List StateSet) (pair : Vectors) : Type 0 where
  at_label : (line : ℕ) → IsSupported c links (end_of c target.path) line → ¬ Has a.count (label_at labels line) (state_under a c pair line)
      → FailsTrial a c links target labels pair
  at_link : (source line : ℕ) → IsSupported c links (end_of c target.path) source → IsLink links source line
      → a.link (state_under a c pair source) (state_under a c pair line) ≡ false → FailsTrial a c links target labels pair
  at_conditions : ¬ Meets c target pair → FailsTrial a c links target labels pair
