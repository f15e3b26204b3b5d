-- The best cut so far is at a line of the circuit.
use Rattle.std.proofs.Common.{◌<◌}
use Rattle.std.specs.Option.{IfSome}
use Rattle.netlist.specs.Circuit.{line_count}
use Rattle.search_hints.proofs.picking.easiest_of_many.Given as goal

abbrev pub invariant-loop-line : goal.invariant-loop-line
invariant-loop-line g l = IfSome l.best (λ cut. cut.line.0 < line_count l.sight.net.now)
