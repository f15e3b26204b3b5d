-- How far a scope has gone along paths from its source, and what a search in it ends with, in words that are spoken inside this crate
-- alone (this project's own).
use Rattle.std.specs.Prelude.{◌≡◌, ℕ, ◌+◌, ◌<◌, ◌≤◌, ◌^◌, [], ◌∷◌, List, Some, None, length, map, take}
use Rattle.pd_base.specs.Route.{Route}
use Rattle.pd_base.specs.declared.ids.PinRef.{PinRef}
use Rattle.pd_base.specs.declared.rules.Rules.{Rules}
use Rattle.netlist.specs.Circuit.{Circuit}
use Rattle.netlist.specs.Paths.{IsPath, end_of, prefix_of}
use Rattle.trees.specs.declared.tree.Node.{Node}
use Rattle.trees.specs.declared.tree.Node.TheVariants.{Closed}
use Rattle.trees.specs.Trees.{split_count}
use Rattle.trees.specs.Refutations.{IsRefutation}
use Rattle.trees.specs.Spent.{IsSpent}
use Rattle.implication.specs.declared.assumption.Assumption.TheVariants.{Entered}
use Rattle.implication.specs.Standing.{IsTold, Standing}
use Rattle.state_sets.specs.StateAlgebra.{StateAlgebra}
use Rattle.justify.specs.declared.desk.Desk.{Desk}
use Rattle.justify.specs.Desks.{IsDeskFor}
use Rattle.justify.specs.Tests.{IsFitTest}
use Rattle.justify.specs.declared.answer.Found.{Found}
use Rattle.justify.specs.declared.answer.Found.TheVariants.{Test, Spent, Refuted}
use Rattle.good_runs.specs.Shortest.{ClosesAtStart}
use Rattle.prefix_sensitize.specs.declared.outcome.Aim.{Aim}
use Rattle.prefix_sensitize.specs.declared.descent.FoundAlong.{FoundAlong}
use Rattle.prefix_sensitize.specs.Outcomes.{target_for}
use Rattle.prefix_sensitize.specs.PathOrder.{ShareSteps}
use Rattle.prefix_sensitize.specs.Walks.{IsBudget}

-- the scope was begun for the aim at the source of the path, and these pins were entered since; no conflict stands
pub record HasGone (standing : Standing) (path : Route) (aim : Aim) (pins : List PinRef) : Type 0 where
  pub beginning : standing.beginning ≡ Some (record { source = path.source; direction = aim.direction; kind = aim.kind })
  pub entered : standing.assumptions ≡ map Entered pins
  pub free : standing.conflict ≡ None

-- all is the same but what was entered, and how often a conflict came
pub record IsSameBeginning (old new : Standing) : Type 0 where
  pub net : new.net ≡ old.net
  pub rules : new.rules ≡ old.rules
  pub ends : new.ends ≡ old.ends
  pub beginning : new.beginning ≡ old.beginning

-- no scope is open any more on the engine; its circuit, its rules and what it tells are the same
pub record IsIdleAgain (old new : Standing) : Type 0 where
  pub net : new.net ≡ old.net
  pub rules : new.rules ≡ old.rules
  pub ends : new.ends ≡ old.ends
  pub idle : new.beginning ≡ None

-- the tree refutes the aim on the prefix of so many steps, which may be the source alone, within the budget; and where the start closes
-- there it is one closed leaf, and the start of no shorter prefix closes
pub record RefutesPrefix (c : Circuit) (rules : Rules) (aim : Aim) (path : Route) (steps : ℕ) (tree : List Node) : Type 0 where
  pub has_steps : steps ≤ length path.steps
  pub refutes : IsRefutation c rules (target_for aim (prefix_of steps path)) tree
  pub within_budget : split_count tree ≤ aim.budget
  pub shortest : ClosesAtStart c rules (target_for aim (prefix_of steps path))
      → (tree ≡ Closed ∷ []) × ((fewer : ℕ) → fewer < steps → ¬ ClosesAtStart c rules (target_for aim (prefix_of fewer path)))

-- what a search for a test of a path found when it had tried so many of its steps
abbrev pub IsFoundUpTo : Circuit → Rules → Aim → Route → ℕ → Found → Type 0
IsFoundUpTo c rules aim path steps (Test pair) = IsFitTest c rules (target_for aim path) pair
IsFoundUpTo c rules aim path steps (Spent tree) = IsSpent c rules (target_for aim path) aim.budget tree
IsFoundUpTo c rules aim path steps (Refuted tree) = RefutesPrefix c rules aim path steps tree

abbrev pub IsFoundAlong : Circuit → Rules → Aim → Route → FoundAlong → Type 0
IsFoundAlong c rules aim path ended = IsFoundUpTo c rules aim path ended.steps ended.found

-- a refutation of the prefix of so many steps
abbrev pub refuted_at : ℕ → List Node → FoundAlong
refuted_at steps tree = record { found = Refuted tree; steps = steps }

-- how many pins of the path were tried in all: all of them, so that a refutation is one of the whole path, or up to the one at which a
-- conflict came, which refutes the prefix up to it
pub data ReachesPins (path : Route) (ended : FoundAlong) (kept tried : ℕ) : Type 0 where
  whole : kept ≡ length path.steps → tried ≡ length path.steps
      → ((steps : ℕ) (tree : List Node) → ended ≡ refuted_at steps tree → steps ≡ length path.steps) → ReachesPins path ended kept tried
  closed : (tree : List Node) → ended ≡ refuted_at (kept + 1) tree → tried ≡ kept + 1 → ReachesPins path ended kept tried

-- no more steps were counted than the path has pins behind those that it shares with these
pub record CountsPins (pins : List PinRef) (path : Route) (old new : ℕ) : Type 0 where
  pub shared : ℕ
  pub is_shared : ShareSteps pins path.steps shared
  pub more : ℕ
  pub counts : new ≡ old + more
  pub within : shared + more ≤ length path.steps

-- From pins that were entered on, those of the path were: what they share with it stayed, and so many more were entered, one of which may
-- have been left again.
pub record HasMovedOn (old new : List PinRef) (path : Route) (ended : FoundAlong) (more : ℕ) : Type 0 where
  pub shared : ℕ
  pub is_shared : ShareSteps old path.steps shared
  pub kept : ℕ
  pub stays : shared ≤ kept
  pub stand : new ≡ take kept path.steps
  pub reaches : ReachesPins path ended kept (shared + more)

-- A search for a test of this path can go on from these pins: the path is one of the circuit and its end is told, there is a desk and a
-- budget for it, and room to count its pins.
pub record CanSearch (a : StateAlgebra) (standing : Standing) (path : Route) (aim : Aim) (pins : List PinRef) (desk : Desk) (steps : ℕ) : Type 0 where
  pub is_path : IsPath standing.net path
  pub is_told : IsTold standing (end_of standing.net path)
  pub is_desk : IsDeskFor a standing.net standing.rules desk
  pub is_budget : IsBudget aim.budget
  pub gone : HasGone standing path aim pins
  pub room : steps + length path.steps < 2 ^ 64

-- what the search ended with, and how far it went and where it stands then
pub record HasSearched (old new : Standing) (path : Route) (aim : Aim) (before after : List PinRef) (first last : ℕ) (ended : FoundAlong) : Type 0 where
  pub is_found : IsFoundAlong old.net old.rules aim path ended
  pub gone : HasGone new path aim after
  pub moved : (more : ℕ) × (last ≡ first + more) × HasMovedOn before after path ended more
