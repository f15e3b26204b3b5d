-- Which pairs of vectors a narrowing along a link keeps (this project's own).
use Rattle.pd_base.specs.Links.{links_of, IsLink}
use Rattle.pd_base.specs.Pair.{Vectors}
use Rattle.pd_base.specs.declared.rules.Rules.{Rules}
use Rattle.std.specs.Prelude.{ℕ, List}
use Rattle.netlist.specs.Circuit.{Circuit}
use Rattle.netlist.specs.Lawful.{IsCircuit}
use Rattle.netlist.specs.LinkedPairs.{FitRules, IsOfRules}
use Rattle.state_sets.specs.declared.state.StateSet.{StateSet}
use Rattle.state_sets.specs.StateAlgebra.{StateAlgebra}
use Rattle.state_laws.specs.Pairs.{HasPair}

-- No pair is lost by a narrowing along a link: in any circuit, under any rules that have the link, of the pairs of the rules the new
-- labels have all that the old ones have.
abbrev pub KeepsLinkedPairs : StateAlgebra → ℕ → ℕ → List StateSet → List StateSet → Type 0
KeepsLinkedPairs a source line old new =
    (c : Circuit) (rules : Rules) → IsCircuit c → FitRules c rules → IsLink (links_of rules) source line
    → (pair : Vectors) → IsOfRules c rules pair → HasPair a c old pair → HasPair a c new pair
