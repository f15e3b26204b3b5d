-- A search that is under way on a scope, and what a visit of a place makes of it, in words that are spoken
-- inside this crate alone (this project's own).
use Rattle.std.specs.Prelude.{◌≡◌, ◌+◌, ◌*◌, ◌-◌, ◌≤◌, ℕ, List, [], ◌∷◌, ◌++◌, length, reverse, Option, Some, None, Result, IfOk, IfErr}
use Rattle.pd_base.specs.Pair.{Vectors}
use Rattle.pd_base.specs.declared.limits.TheConstants.{MOST_BUDGET}
use Rattle.state_sets.specs.StateAlgebra.{StateAlgebra}
use Rattle.trees.specs.declared.tree.Node.TheVariants.{Closed}
use Rattle.implication.specs.Clients.{IsRestored}
use Rattle.implication.specs.Moves.{risen}
use Rattle.implication.specs.Standing.{Standing, IsOpenIn}
use Rattle.justify.specs.declared.desk.Desk.{Desk}
use Rattle.justify.specs.declared.growing.Growth.{Growth}
use Rattle.justify.specs.declared.growing.Place.{Place}
use Rattle.justify.specs.declared.task.Task.{Task}
use Rattle.justify.specs.declared.answer.Found.{Found}
use Rattle.justify.specs.declared.answer.Unfinished.{Unfinished}
use Rattle.justify.specs.Answers.{IsFound, CountsConflicts, HasCounted}
use Rattle.justify.specs.Desks.{IsDesk}
use Rattle.justify.specs.Scoping.{IsStart, SuitsSearch, MayEndBy}
use Rattle.justify.specs.Growths.{IsGrowing, IsExtended, AreToldPlaces}
use Rattle.pair_judging.specs.Targets.{seen_target}
use Rattle.justify.specs.Tests.{IsFitTest}
use Rattle.justify.specs.Trying.{HasFailed}
use Rattle.implication.specs.Settings.{IsSameSetting}
use Rattle.justify.specs.UnderWay.{IsUnderWay}

-- A tree can grow from its root: the engine suits the search, the path's pins and nothing else are entered and leave each line some state, the
-- budget is no more than the program takes, and the desk is the path's.
pub record IsAtRoot (a : StateAlgebra) (task : Task) (standing : Standing) (desk : Desk) : Type 0 where
  pub suits : SuitsSearch a (seen_target task.target) standing
  pub start : IsStart (seen_target task.target) standing
  pub left_open : IsOpenIn a standing
  pub budget : task.budget ≤ MOST_BUDGET
  pub serves : IsDesk a standing.net standing.rules task.target.path.now desk

-- The engine suits the search, what was entered stands, the desk is the path's, and the tree has grown so far, with these places left,
-- the next one first, at sources that are told.
pub record IsSearching (a : StateAlgebra) (task : Task) (standing : Standing) (desk : Desk) (places : List Place) (growth : Growth) : Type 0 where
  pub suits : SuitsSearch a (seen_target task.target) standing
  pub under_way : IsUnderWay (seen_target task.target) standing
  pub serves : IsDesk a standing.net standing.rules task.target.path.now desk
  pub growing : IsGrowing a standing.net standing.rules (seen_target task.target) task.budget standing.assumptions places growth.nodes.items growth.splits
  pub told : AreToldPlaces standing places

-- what was entered still stands, and no count has fallen
pub record SearchGoesOn (a : StateAlgebra) (task : Task) (old new : Standing) (desk : Desk) : Type 0 where
  pub setting : IsSameSetting old new
  pub under_way : IsUnderWay (seen_target task.target) new
  pub serves : IsDesk a new.net new.rules task.target.path.now desk
  pub later : old.closings ≤ new.closings

-- the scope is as it was, but for conflicts that were counted, and the desk is still the path's
pub record LeavesSearch (a : StateAlgebra) (task : Task) (old new : Standing) (desk : Desk) : Type 0 where
  pub restored : IsRestored old new
  pub serves : IsDesk a old.net old.rules task.target.path.now desk

-- A search for trees has ended: the scope is left so, and what was found, with so many splits as its budget, has its conflicts counted; or
-- nothing was found, by what it may end by.
pub record EndsSearch (a : StateAlgebra) (task : Task) (splits : ℕ) (old new : Standing) (desk : Desk) (ended : Result Found Unfinished) : Type 0 where
  pub left : LeavesSearch a task old new desk
  pub found : IfOk ended (IsFound old.net old.rules (seen_target task.target) splits)
  pub counted : IfOk ended (λ found. CountsConflicts splits found old new)
  pub unfinished : IfErr ended (MayEndBy (seen_target task.target) old)

-- the tree has one node more, a conflict was counted, and less is left to do
pub record AddsNode (a : StateAlgebra) (task : Task) (old new : Standing) (before after : Growth) : Type 0 where
  pub counted : risen old.closings ≤ new.closings
  pub one_more : length after.nodes.items ≡ length before.nodes.items + 1
  pub left : 2 * (task.budget - after.splits) + length after.places.items ≤ 2 * (task.budget - before.splits) + length before.places.items
  pub growing : IsGrowing a new.net new.rules (seen_target task.target) task.budget new.assumptions (reverse after.places.items) after.nodes.items after.splits
  pub told : AreToldPlaces new (reverse after.places.items)

-- a closed leaf is one node more, and no test was found
pub record AddsClosed (before after : Growth) (test : Option Vectors) : Type 0 where
  pub none : test ≡ None
  pub nodes : after.nodes.items ≡ before.nodes.items ++ Closed ∷ []
  pub places : after.places.items ≡ before.places.items
  pub splits : after.splits ≡ before.splits

-- no pair that was tried at an open node is a test, and it became a leaf that waits, or a split
pub record ExtendsTree (a : StateAlgebra) (task : Task) (old new : Standing) (before after : Growth) : Type 0 where
  pub failed : HasFailed a (seen_target task.target) old
  pub counted : risen old.closings ≤ new.closings
  pub extended : IsExtended a (seen_target task.target) new task.budget before after

-- what a visit of an open node finds: a test, or none
abbrev pub IsNodeVisit : StateAlgebra → Task → Standing → Standing → Growth → Growth → Option Vectors → Type 0
IsNodeVisit a task old new before after (Some pair) = IsFitTest old.net old.rules (seen_target task.target) pair
IsNodeVisit a task old new before after None = ExtendsTree a task old new before after

-- what a visit finds: a test, or one node more
abbrev pub IsVisit : StateAlgebra → Task → Standing → Standing → Growth → Growth → Option Vectors → Type 0
IsVisit a task old new before after (Some pair) = IsFitTest old.net old.rules (seen_target task.target) pair
IsVisit a task old new before after None = AddsNode a task old new before after

-- what comes of visiting place after place: a test, or a tree with no place left, for each node of which a conflict was counted
abbrev pub IsGrowthOf : StateAlgebra → Task → Standing → Standing → Growth → Option Vectors → Type 0
IsGrowthOf a task old new growth (Some pair) = IsFitTest old.net old.rules (seen_target task.target) pair
IsGrowthOf a task old new growth None = HasCounted (length growth.nodes.items) old new
    × IsGrowing a new.net new.rules (seen_target task.target) task.budget new.assumptions [] growth.nodes.items growth.splits
