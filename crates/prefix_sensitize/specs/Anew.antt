-- A path at whose end a scope can begin, in words that are spoken inside this crate alone (this project's own).
use Rattle.std.specs.Prelude.{ℕ, ◌≤◌, length}
use Rattle.pd_base.specs.Route.{Route}
use Rattle.pd_base.specs.declared.rules.Rules.{Rules}
use Rattle.netlist.specs.Circuit.{Circuit}
use Rattle.netlist.specs.Paths.{IsPath, prefix_of}
use Rattle.good_runs.specs.Shortest.{ClosesAtStart}
use Rattle.prefix_sensitize.specs.declared.outcome.Aim.{Aim}
use Rattle.prefix_sensitize.specs.Outcomes.{target_for}

-- it is a path of the circuit, and the start of no prefix of it closes
pub record CanBeEntered (c : Circuit) (rules : Rules) (aim : Aim) (path : Route) : Type 0 where
  pub is_path : IsPath c path
  pub left_open : (steps : ℕ) → steps ≤ length path.steps → ¬ ClosesAtStart c rules (target_for aim (prefix_of steps path))
