use Rattle.std.proofs.Common.{◌≤◌, ℕ}
use Rattle.pd_base.specs.Route.{Route}
use Rattle.netlist.specs.Paths.{IsPrefixOf, prefix_of}
use Rattle.prefix_sensitize.specs.PathOrder.{StandsInOrder}
use Rattle.prefix_sensitize.proofs.stretch.first_place.Given as goal

-- the path at the place so far has the first steps of the path
abbrev pub invariant-loop-start : goal.invariant-loop-start
invariant-loop-start l = record {
  no_later : l.start ≤ l.place;
  has : (row other : ℕ) (route another : Route) → StandsInOrder l.paths l.order l.place row route
      → StandsInOrder l.paths l.order l.start other another → IsPrefixOf (prefix_of l.steps route) another;
}

abbrev pub decreases-loop-start : goal.decreases-loop-start
decreases-loop-start l = l.start
