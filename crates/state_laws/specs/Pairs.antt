-- Pairs of vectors and labels: which pairs labels have, and which pairs can be read off them (this project's own).
use Rattle.std.specs.Prelude.{◌≡◌, ℕ, ◌<◌, not, cond, List}
use Rattle.pd_base.specs.Pair.{Vectors}
use Rattle.pd_base.specs.Route.{Route}
use Rattle.pd_base.specs.declared.fault.Kind.{Kind}
use Rattle.pd_base.specs.declared.rules.Rules.{Rules}
use Rattle.netlist.specs.LinkedPairs.{IsOfRules}
use Rattle.netlist.specs.Circuit.{Circuit, line_count, source_count}
use Rattle.netlist.specs.Conditions.{SidesMeet}
use Rattle.netlist.specs.Paths.{end_of}
use Rattle.netlist.specs.Pins.{IsInFanIn}
use Rattle.netlist.specs.Values.{bit_of}
use Rattle.state_sets.specs.declared.state.State.{State}
use Rattle.state_sets.specs.declared.state.StateSet.{StateSet}
use Rattle.state_sets.specs.States.{Has}
use Rattle.state_sets.specs.StateAlgebra.{StateAlgebra}
use Rattle.state_sets.specs.LineStates.{state_under}
use Rattle.state_sets.specs.Labellings.{label_at}

-- the labels have the pair: at each line its state
abbrev pub HasPair : StateAlgebra → Circuit → List StateSet → Vectors → Type 0
HasPair a c labels pair =
    (line : ℕ) → line < line_count c → Has a.count (label_at labels line) (state_under a c pair line)

-- no pair is lost: of the pairs of the rules whose sides meet the conditions of a prefix, the new labels have all that the old ones have
abbrev pub KeepsPairs : StateAlgebra → Circuit → Rules → Kind → Route → List StateSet → List StateSet → Type 0
KeepsPairs a c rules kind prefix old new =
    (pair : Vectors) → IsOfRules c rules pair → SidesMeet c kind pair prefix.source.0 prefix.steps → HasPair a c old pair
    → HasPair a c new pair

-- the labels have none of these pairs
abbrev pub HasNoPair : StateAlgebra → Circuit → Rules → Kind → Route → List StateSet → Type 0
HasNoPair a c rules kind prefix labels =
    (pair : Vectors) → IsOfRules c rules pair → SidesMeet c kind pair prefix.source.0 prefix.steps → ¬ HasPair a c labels pair

-- the labels leave to each source in the fan-in of the path's end at most its state under the pair
abbrev pub IsGiven : StateAlgebra → Circuit → Vectors → Route → List StateSet → Type 0
IsGiven a c pair path labels =
    (source : ℕ) → source < source_count c → IsInFanIn c (end_of c path) source
    → (state : State) → Has a.count (label_at labels source) state → state ≡ state_under a c pair source

-- singletons decide: the sides of such a pair meet the conditions
abbrev pub SingletonsDecide : StateAlgebra → Circuit → Kind → Route → List StateSet → Type 0
SingletonsDecide a c kind path labels =
    (pair : Vectors) → IsGiven a c pair path labels → SidesMeet c kind pair path.source.0 path.steps

-- The bits of a source are read off labels: these leave it one state of a source alone, whose last value is the bit of the second vector. The
-- bit of the first is the same if the state is steady, and else the other one.
pub record IsReadOff (a : StateAlgebra) (pair : Vectors) (labels : List StateSet) (source : ℕ) : Type 0 where
  pub state : State
  pub is_source : Has a.count a.sources state
  pub has : Has a.count (label_at labels source) state
  pub alone : (other : State) → Has a.count (label_at labels source) other → other ≡ state
  pub first : bit_of pair.first source ≡ cond (a.steady state) (a.last state) (not (a.last state))
  pub second : bit_of pair.second source ≡ a.last state
