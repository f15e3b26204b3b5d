-- A node of a tree at which a pair is tried, and how the scope stands there (this project's own).
use Rattle.std.specs.Prelude.{◌≡◌, ℕ, ◌<◌, ◌↔◌, List, Some, None}
use Rattle.pd_base.specs.Target.{Target}
use Rattle.pd_base.specs.declared.rules.Rules.{Rules}
use Rattle.netlist.specs.Circuit.{Circuit, line_count}
use Rattle.state_sets.specs.declared.state.State.{State}
use Rattle.state_sets.specs.StateAlgebra.{StateAlgebra}
use Rattle.state_laws.specs.declared.split.Half.{Half}
use Rattle.state_laws.specs.Nodes.{MayBe}
use Rattle.implication.specs.declared.assumption.Beginning.{Beginning}
use Rattle.implication.specs.declared.assumption.Assumption.{Assumption}
use Rattle.implication.specs.Assumptions.{entered_pins, MayUnder}
use Rattle.implication.specs.Standing.{Standing, IsOpenIn}

-- with what the scopes of a search begin
abbrev pub beginning_of : Target → Beginning
beginning_of target = record { source = target.path.source; direction = target.direction; kind = target.kind }

-- at a node: the pins entered are the path's alone, no conflict stands, and each line has some state left
pub record StandsAtNode (a : StateAlgebra) (target : Target) (standing : Standing) : Type 0 where
  pub beginning : standing.beginning ≡ Some (beginning_of target)
  pub entered : entered_pins standing.assumptions ≡ target.path.steps
  pub free : standing.conflict ≡ None
  pub left_open : IsOpenIn a standing

-- lines may be in the same states by both
abbrev pub AllowSame : ℕ → Circuit → (ℕ → State → Type 0) → (ℕ → State → Type 0) → Type 0
AllowSame count c May Might = (line : ℕ) (state : State) → line < line_count c → state.0 < count → May line state ↔ Might line state

-- the assumptions leave lines the same states as the node of a tree below these halves
abbrev pub AllowAsNode : StateAlgebra → Circuit → Rules → Target → List Assumption → List Half → Type 0
AllowAsNode a c rules target assumptions halves =
    AllowSame a.count c (MayUnder a c rules (beginning_of target) assumptions) (MayBe a c rules target halves)
