-- What a search may answer (this project's own).
use Rattle.std.specs.Prelude.{◌≡◌, ⊤, ℕ, ◌+◌, ◌*◌, ◌-◌, ◌^◌, ◌≤◌, ◌⊎◌, Bool, true, false, count_by, Result, Ok}
use Rattle.pd_base.specs.Target.{Target}
use Rattle.pd_base.specs.declared.rules.Rules.{Rules}
use Rattle.netlist.specs.Circuit.{Circuit, source_count}
use Rattle.trees.specs.declared.tree.Node.{Node}
use Rattle.trees.specs.declared.tree.Node.TheVariants.{Closed, Waiting, Split}
use Rattle.trees.specs.Trees.{split_count, IsTreeOfSources}
use Rattle.trees.specs.Refutations.{IsRefutation}
use Rattle.trees.specs.Spent.{IsSpent}
use Rattle.implication.specs.Standing.{Standing}
use Rattle.justify.specs.Tests.{IsFitTest}
use Rattle.justify.specs.declared.answer.Found.{Found}
use Rattle.justify.specs.declared.answer.Found.TheVariants.{Test, Refuted, Spent}

-- a test; a refutation of the conditions for the whole path, with at most so many splits, all at sources; or a tree that spent exactly this
-- budget, whose splits are at sources, too, since each is due
abbrev pub IsFound : Circuit → Rules → Target → ℕ → Found → Type 0
IsFound c rules target budget (Test pair) = IsFitTest c rules target pair
IsFound c rules target budget (Refuted tree) = IsRefutation c rules target tree × (split_count tree ≤ budget) × IsTreeOfSources (source_count c) tree
IsFound c rules target budget (Spent tree) = IsSpent c rules target budget tree

-- so many conflicts more were counted, or the count is at its end, which it does not pass
abbrev pub HasCounted : ℕ → Standing → Standing → Type 0
HasCounted more old new = (old.closings + more ≤ new.closings) ⊎ (2 ^ 64 - 1 ≤ new.closings)

-- whether the node is a closed leaf
abbrev pub is_closed : Node → Bool
is_closed Closed = true
is_closed Waiting = false
is_closed (Split split) = false

-- the search went by the scope: a conflict was counted for each closed leaf of a refutation, and for each node of a spent tree
abbrev pub CountsConflicts : ℕ → Found → Standing → Standing → Type 0
CountsConflicts budget (Test pair) old new = ⊤
CountsConflicts budget (Refuted tree) old new = HasCounted (count_by is_closed tree) old new
CountsConflicts budget (Spent tree) old new = HasCounted (2 * budget + 1) old new

-- it is a test for the target
abbrev pub IsTestFor : Circuit → Rules → Target → Found → Type 0
IsTestFor c rules target (Test pair) = IsFitTest c rules target pair
IsTestFor c rules target (Refuted tree) = ⊥
IsTestFor c rules target (Spent tree) = ⊥

-- what a search has ended with, or a test in its place
abbrev pub IsOutcomeOf : {E : Type 0} → Circuit → Rules → Target → Result Found E → Found → Type 0
IsOutcomeOf c rules target ended found = (ended ≡ Ok found) ⊎ IsTestFor c rules target found
