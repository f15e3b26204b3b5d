-- What lines may be in at a node of a tree of cases: as at the start, and cut by the halves of the splits above the node (this
-- project's own).
use Rattle.std.specs.Prelude.{◌≡◌, ℕ, List, All}
use Rattle.pd_base.specs.Links.{links_of}
use Rattle.pd_base.specs.Target.{Target}
use Rattle.pd_base.specs.declared.rules.Rules.{Rules}
use Rattle.netlist.specs.Circuit.{Circuit}
use Rattle.state_sets.specs.declared.state.State.{State}
use Rattle.state_sets.specs.declared.state.StateSet.{StateSet}
use Rattle.state_sets.specs.StateAlgebra.{StateAlgebra}
use Rattle.state_sets.specs.Starts.{MayStart}
use Rattle.state_sets.specs.Hulls.{IsNarrowingOf, IsHull, IsEmptied, Closes}
use Rattle.state_laws.specs.declared.split.Half.{Half}
use Rattle.state_laws.specs.Halves.{IsInHalf}

-- the state is in the half, if the half is one of this line
abbrev pub IsCut : StateAlgebra → ℕ → State → Half → Type 0
IsCut a line state half = line ≡ half.split.line.0 → IsInHalf a half.split.kind half.second state

-- what a line may be in at a node below these halves, where a target is looked for under these rules
pub record MayBe (a : StateAlgebra) (c : Circuit) (rules : Rules) (target : Target) (halves : List Half) (line : ℕ) (state : State) : Type 0 where
  pub start : MayStart a c rules target.path.source.0 target.direction line state
  pub cut : All (IsCut a line state) halves

-- the hull at a node, under the conditions of the target's kind at the gates of its path
abbrev pub IsNodeHull : StateAlgebra → Circuit → Rules → Target → List Half → List StateSet → Type 0
IsNodeHull a c rules target halves hull =
    IsHull a c (IsNarrowingOf c (links_of rules) target.kind target.path.steps) (MayBe a c rules target halves) hull

-- this line is emptied at the node
abbrev pub IsEmptiedAtNode : StateAlgebra → Circuit → Rules → Target → List Half → ℕ → Type 0
IsEmptiedAtNode a c rules target halves line =
    IsEmptied a c (IsNarrowingOf c (links_of rules) target.kind target.path.steps) (MayBe a c rules target halves) line

-- the node closes: some line is emptied there
abbrev pub ClosesAtNode : StateAlgebra → Circuit → Rules → Target → List Half → Type 0
ClosesAtNode a c rules target halves =
    Closes a c (IsNarrowingOf c (links_of rules) target.kind target.path.steps) (MayBe a c rules target halves)
