-- How a scope stands while the pins of a path are entered, in words that are spoken inside this crate alone (this project's own).
use Rattle.std.specs.Prelude.{◌≡◌, ℕ, ◌+◌, ◌<◌, ◌≤◌, min, Bool, true, false, List, length, map, take, Some, None}
use Rattle.pd_base.specs.declared.ids.PinRef.{PinRef}
use Rattle.pd_base.specs.Route.{Route}
use Rattle.pd_base.specs.Target.{target_of}
use Rattle.netlist.specs.Paths.{IsPath, end_of, prefix_of}
use Rattle.state_sets.specs.StateAlgebra.{StateAlgebra}
use Rattle.trees.specs.Algebras.{algebra_of}
use Rattle.implication.specs.declared.assumption.Assumption.TheVariants.{Entered}
use Rattle.implication.specs.declared.assumption.Beginning.{Beginning}
use Rattle.implication.specs.Standing.{Standing, IsOpenIn, IsTold}
use Rattle.good_runs.specs.Shortest.{ClosesAtStart}

-- pins of this path may be entered: the kind of states is that of the rules; the scope began at the source of the path, and the line at the path's end is told
pub record LeadsAlong (a : StateAlgebra) (standing : Standing) (path : Route) : Type 0 where
  pub of_rules : a ≡ algebra_of standing.rules
  pub is_path : IsPath standing.net path
  pub is_told : IsTold standing (end_of standing.net path)
  pub begun : Beginning
  pub began : standing.beginning ≡ Some begun
  pub source : begun.source ≡ path.source

-- the pins that were entered since the scope began are the first ones of the path, so many, and they leave each line some state
pub record IsAtPin (a : StateAlgebra) (standing : Standing) (pins : List PinRef) (path : Route) (count : ℕ) : Type 0 where
  pub within : count ≤ length path.steps
  pub first : pins ≡ take count path.steps
  pub entered : standing.assumptions ≡ map Entered pins
  pub free : standing.conflict ≡ None
  pub left_open : IsOpenIn a standing

-- the start of this path closes, for the transition and the kind with which the scope began
pub record ClosesFrom (standing : Standing) (path : Route) : Type 0 where
  pub begun : Beginning
  pub began : standing.beginning ≡ Some begun
  pub closes : ClosesAtStart standing.net standing.rules (target_of path begun.direction begun.kind)

-- behind so many pins of the path one more was entered, or it was not, since the start of the path up to it closes
abbrev pub TriesPin : StateAlgebra → Standing → Standing → Route → ℕ → List PinRef → Bool → Type 0
TriesPin a old new path count pins true = IsAtPin a new pins path (count + 1)
TriesPin a old new path count pins false = IsAtPin a new pins path count × ClosesFrom old (prefix_of (count + 1) path)

-- Pins of the path were entered from so many on: where not all are, a conflict came up at the next one, and each one that was tried is
-- counted.
pub record HasGoneOn (a : StateAlgebra) (old new : Standing) (path : Route) (from : ℕ) (pins : List PinRef) (before after kept : ℕ) : Type 0 where
  pub farther : from ≤ kept
  pub at : IsAtPin a new pins path kept
  pub closes : kept < length path.steps → ClosesFrom old (prefix_of (kept + 1) path)
  pub counted : from + after ≡ before + min (kept + 1) (length path.steps)
