-- Where a walk over a tree in preorder stands: a scope at its node, and the second halves that it has put off. These are facts of a loop,
-- spoken inside this crate alone (this project's own).
use Rattle.std.specs.Prelude.{◌≡◌, ⊤, ℕ, ◌<◌, ◌≤◌, ◌⊎◌, true, false, List, [], ◌∷◌, reverse, length, All, Option, Some, None}
use Rattle.pd_base.specs.Target.{Target}
use Rattle.pd_base.specs.declared.ids.LineId.{LineId}
use Rattle.pd_base.specs.declared.rules.Rules.{Rules}
use Rattle.netlist.specs.Circuit.{Circuit, line_count}
use Rattle.state_sets.specs.StateAlgebra.{StateAlgebra}
use Rattle.state_laws.specs.declared.split.Half.{Half}
use Rattle.state_laws.specs.Halves.{half_of}
use Rattle.state_laws.specs.Nodes.{IsEmptiedAtNode}
use Rattle.trees.specs.declared.tree.Node.{Node}
use Rattle.trees.specs.declared.tree.Node.TheVariants.{Closed, Waiting, Split}
use Rattle.trees.specs.Halves.{halves_of, turns}
use Rattle.implication.specs.Assumptions.{entered_pins, ClosesUnder}
use Rattle.implication.specs.Clients.{ExtendsStanding}
use Rattle.implication.specs.Standing.{Standing, IsTold}
use Rattle.implication.specs.NodeScopes.{beginning_of, AllowAsNode}
use Rattle.refutation_check.specs.declared.walk.Pending.{Pending}

-- the assumptions of the scope are those of the node: the pins entered are the path's, and lines may be in the same states, of which
-- each has some left
pub record IsOpenNode (a : StateAlgebra) (target : Target) (halves : List Half) (standing : Standing) : Type 0 where
  pub entered : entered_pins standing.assumptions ≡ target.path.steps
  pub allows : AllowAsNode a standing.net standing.rules target standing.assumptions halves
  pub left_open : ¬ ClosesUnder a standing.net standing.rules (beginning_of target) standing.assumptions

-- the node closes at this line
abbrev pub ClosesAtLine : StateAlgebra → Circuit → Rules → Target → List Half → LineId → Type 0
ClosesAtLine a c rules target halves line = (line.0 < line_count c) × IsEmptiedAtNode a c rules target halves line.0

-- where no conflict stands the assumptions are the node's, and where one stands the node closes at its line
abbrev pub IsNodeBy : StateAlgebra → Target → List Half → Standing → Option LineId → Type 0
IsNodeBy a target halves standing None = IsOpenNode a target halves standing
IsNodeBy a target halves standing (Some line) = ClosesAtLine a standing.net standing.rules target halves line

-- the scope is at the node of a tree for this target below these halves, which are of lines of the circuit
pub record IsScopeAt (a : StateAlgebra) (target : Target) (halves : List Half) (standing : Standing) : Type 0 where
  pub beginning : standing.beginning ≡ Some (beginning_of target)
  pub on_lines : All (λ half. half.split.line.0 < line_count standing.net) halves
  pub is_node : IsNodeBy a target halves standing standing.conflict

-- A half was put off at a node below these halves, when the scope stood so; going back to the half's mark restores that. It is the first
-- of these places at which trees are due.
pub record IsPending (a : StateAlgebra) (target : Target) (pending : Pending) (above : List Half) (before now : Standing) (places : List (List Half)) : Type 0 where
  pub first : places ≡ (pending.half ∷ above) ∷ turns above
  pub second : pending.half.second ≡ true
  pub in_circuit : pending.half.split.line.0 < line_count before.net
  pub told : IsTold before pending.half.split.line.0
  pub mark : pending.mark.at ≡ length before.assumptions
  pub extends : ExtendsStanding before now
  pub at : IsScopeAt a target (halves_of above) before

-- these halves, the last one first, are those at the places at which trees are due
abbrev pub ArePending : StateAlgebra → Target → Standing → List Pending → List (List Half) → Type 0
ArePending a target standing [] places = places ≡ []
ArePending a target standing (pending ∷ more) places =
    (above : List Half) × (before : Standing) × IsPending a target pending above before standing places
    × ArePending a target before more (turns above)

-- the walk stands at the node below these halves, from the deepest up, and has put off the second halves that are due behind it
pub record WalksAt (a : StateAlgebra) (target : Target) (above : List Half) (standing : Standing) (pending : List Pending) : Type 0 where
  pub at : IsScopeAt a target (halves_of above) standing
  pub due : ArePending a target standing (reverse pending) (turns above)

-- From so many assumptions one can go back to the mark of this second half, which does not stand above the root; and the half is of a
-- line of the circuit, which is told.
pub record LeadsBack (root : Standing) (count : ℕ) (pending : Pending) : Type 0 where
  pub before : pending.mark.at ≤ count
  pub not_above_root : length root.assumptions ≤ pending.mark.at
  pub in_circuit : pending.half.split.line.0 < line_count root.net
  pub told : IsTold root pending.half.split.line.0

-- one can go back to the marks of these second halves, one after another
abbrev pub LeadBack : Standing → ℕ → List Pending → Type 0
LeadBack root count [] = ⊤
LeadBack root count (pending ∷ more) = LeadsBack root count pending × LeadBack root pending.mark.at more

-- the walk began where the scope stood so, at the root of a tree: what was assumed there still is, whatever was put off
pub record IsWalkFrom (root now : Standing) (pending : List Pending) : Type 0 where
  pub extends : ExtendsStanding root now
  pub back : LeadBack root (length now.assumptions) (reverse pending)

-- it is a walk over a tree from some root
pub record IsWalk (now : Standing) (pending : List Pending) : Type 0 where
  pub root : Standing
  pub walk : IsWalkFrom root now pending

-- the walk has still the same root
abbrev pub KeepsRoot : Standing → List Pending → Standing → List Pending → Type 0
KeepsRoot old before new after = (root : Standing) → IsWalkFrom root old before → IsWalkFrom root new after

-- where a walk goes on to behind the last node below these halves: no tree waits, and it stays; or these are the halves above the tree that
-- waits first
abbrev pub GoesOnTo : List Half → List Half → Type 0
GoesOnTo above next = ((turns above ≡ []) × (next ≡ above)) ⊎ (turns above ≡ next ∷ turns next)

-- the walk went on behind a leaf
abbrev pub GoesRound : StateAlgebra → Standing → List Pending → Standing → List Pending → Type 0
GoesRound a old before new after = (target : Target) (above : List Half) → WalksAt a target above old before
    → (next : List Half) × GoesOnTo above next × WalksAt a target next new after

-- the walk went down into this half
abbrev pub GoesDown : StateAlgebra → Half → Standing → List Pending → Standing → List Pending → Type 0
GoesDown a half old before new after = (target : Target) (above : List Half) → WalksAt a target above old before
    → WalksAt a target (half ∷ above) new after

-- the walk went on behind a node: round behind a leaf, or down into the first half of a split
abbrev pub PassesOn : StateAlgebra → Node → Standing → List Pending → Standing → List Pending → Type 0
PassesOn a Closed old before new after = GoesRound a old before new after
PassesOn a Waiting old before new after = GoesRound a old before new after
PassesOn a (Split split) old before new after = GoesDown a (half_of split false) old before new after

-- a split of the node is at a line of the circuit, which is told
abbrev pub IsOnTold : Standing → Node → Type 0
IsOnTold standing Closed = ⊤
IsOnTold standing Waiting = ⊤
IsOnTold standing (Split split) = (split.line.0 < line_count standing.net) × IsTold standing split.line.0

-- where the node is a split at a line of the circuit, that line is told
abbrev pub IsToldAt : Standing → Node → Type 0
IsToldAt standing Closed = ⊤
IsToldAt standing Waiting = ⊤
IsToldAt standing (Split split) = split.line.0 < line_count standing.net → IsTold standing split.line.0
