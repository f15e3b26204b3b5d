use Rattle.std.proofs.Common.{ℕ}
use Rattle.pd_base.specs.Route.{Route}
use Rattle.netlist.specs.Paths.{prefix_of}
use Rattle.prefix_sensitize.specs.PathOrder.{StandsInOrder}
use Rattle.prefix_sensitize.proofs.PathOrder.{IsPart}
use Rattle.prefix_sensitize.proofs.stretch.stretch_from.Given as goal

-- the places before this one are part of the stretch
abbrev pub invariant-loop-at : goal.invariant-loop-at
invariant-loop-at l =
    (row : ℕ) (route : Route) → StandsInOrder l.paths l.order l.place row route
    → IsPart l.paths l.order (prefix_of l.steps route) l.place l.at l.least
