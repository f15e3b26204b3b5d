-- What is told of the pairs of vectors that have given states at the sources of a cone (this project's own).
use Rattle.std.specs.Prelude.{◌≡◌, ◌≢◌, ⊤, ℕ, ◌<◌, true, false, List, Some, slice_get, IfSome, Contains}
use Rattle.pd_base.specs.Pair.{Vectors}
use Rattle.pd_base.specs.Target.{Target}
use Rattle.pd_base.specs.Links.{LinkList, IsLink}
use Rattle.pd_base.specs.declared.ids.LineId.{LineId}
use Rattle.pd_base.specs.declared.ids.GateId.{GateId}
use Rattle.netlist.specs.Circuit.{Circuit, line_count}
use Rattle.netlist.specs.Conditions.{Meets, Allows}
use Rattle.netlist.specs.declared.side_conditions.SideCondition.{SideCondition}
use Rattle.netlist.specs.Paths.{end_of}
use Rattle.netlist.specs.LinkedPairs.{IsSupported}
use Rattle.state_sets.specs.declared.state.State.{State}
use Rattle.state_sets.specs.declared.state.StateSet.{StateSet}
use Rattle.state_sets.specs.States.{Has}
use Rattle.state_sets.specs.StateAlgebra.{StateAlgebra}
use Rattle.state_sets.specs.LineStates.{state_under}
use Rattle.state_sets.specs.Labellings.{label_at}
use Rattle.state_laws.specs.FailedTrials.{FailsTrial}
use Rattle.pair_judging.specs.ConeStates.{state_in, HasSourceStates, HasSupportStates, HasLinkedStates, HasConeStates}
use Rattle.cones.specs.KeptCones.{AreConeGates}
use Rattle.pair_judging.specs.declared.judging.Judgement.{Judgement}
use Rattle.pair_judging.specs.declared.judging.Judgement.TheVariants.{IsTest, FailsAt}

-- Of the pairs under which the lines in the fan-in of the path's end are in these states: each is a test, or none is.
abbrev pub IsJudgedBy : StateAlgebra → Circuit → Target → List State → Judgement → Type 0
IsJudgedBy a c target states IsTest = (pair : Vectors) → HasConeStates a c (end_of c target.path) states pair → Meets c target pair
IsJudgedBy a c target states (FailsAt line side) = (pair : Vectors) → HasConeStates a c (end_of c target.path) states pair → ¬ Meets c target pair

-- Of the pairs that have these states at the sources of the support: under each the lines are in these states too, those of links may be
-- linked, and it is a test; or each fails.
abbrev pub IsJudgedAt : StateAlgebra → Circuit → LinkList → Target → List StateSet → List State → Judgement → Type 0
IsJudgedAt a c links target labels states IsTest =
    (pair : Vectors) → HasSourceStates a c links (end_of c target.path) states pair
    → HasSupportStates a c links (end_of c target.path) states pair × HasLinkedStates a c links (end_of c target.path) pair × Meets c target pair
IsJudgedAt a c links target labels states (FailsAt line side) =
    (pair : Vectors) → HasSourceStates a c links (end_of c target.path) states pair → FailsTrial a c links target labels pair

-- the lines that a judgement names are in the support of an end
abbrev pub FailsInCone : Circuit → LinkList → ℕ → Judgement → Type 0
FailsInCone c links end IsTest = ⊤
FailsInCone c links end (FailsAt line side) = IsSupported c links end line.0 × IfSome side (λ other. IsSupported c links end other.0)

-- under each pair that has these states at the sources of a cone with these gates, its lines are in the new states
abbrev pub AreComputed : StateAlgebra → Circuit → List GateId → List State → List State → Type 0
AreComputed a c gates old new =
    (links : LinkList) (end : ℕ) → AreConeGates c links end gates → (pair : Vectors) → HasSourceStates a c links end old pair
    → (line : ℕ) → line < line_count c → IsSupported c links end line → state_under a c pair line ≡ state_in new line

-- under none of them is this line of the cone in a state that its label has
abbrev pub RulesOut : StateAlgebra → Circuit → List GateId → List StateSet → List State → ℕ → Type 0
RulesOut a c gates labels old line =
    (links : LinkList) (end : ℕ) → AreConeGates c links end gates → IsSupported c links end line
    × ((pair : Vectors) → HasSourceStates a c links end old pair → ¬ Has a.count (label_at labels line) (state_under a c pair line))

-- the states of these sources and of the lines to which they are linked may be linked
abbrev pub LinksPass : StateAlgebra → LinkList → List LineId → List State → Type 0
LinksPass a links sources states =
    (source line : ℕ) → Contains sources (record { 0 = source }) → IsLink links source line
    → a.link (state_in states source) (state_in states line) ≡ true

-- those of this one may not
pub record IsFailingLink (a : StateAlgebra) (links : LinkList) (sources : List LineId) (states : List State) (source line : LineId) : Type 0 where
  pub among : Contains sources source
  pub link : IsLink links source.0 line.0
  pub fails : a.link (state_in states source.0) (state_in states line.0) ≡ false

-- the states at the side pins of a step are allowed
abbrev pub StatesPass : StateAlgebra → SideCondition → List State → ℕ → List LineId → Type 0
StatesPass a condition states on_path pins =
    (pin : ℕ) (side : LineId) → pin ≢ on_path → slice_get pins pin ≡ Some side
    → Allows condition (a.last (state_in states side.0)) (a.steady (state_in states side.0))

-- a side pin that reads this line is not
pub record IsFailingSide (a : StateAlgebra) (condition : SideCondition) (states : List State) (on_path : ℕ) (pins : List LineId) (side : LineId) : Type 0 where
  pub pin : ℕ
  pub other : pin ≢ on_path
  pub reads : slice_get pins pin ≡ Some side
  pub fails : ¬ Allows condition (a.last (state_in states side.0)) (a.steady (state_in states side.0))
