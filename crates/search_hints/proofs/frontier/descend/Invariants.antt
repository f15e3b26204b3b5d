-- The cut is at a line of the circuit.
use Rattle.std.proofs.Common.{◌<◌}
use Rattle.netlist.specs.Circuit.{line_count}
use Rattle.search_hints.proofs.frontier.descend.Given as goal

abbrev pub invariant-loop : goal.invariant-loop
invariant-loop g l = l.cut.line.0 < line_count l.sight.net.now
