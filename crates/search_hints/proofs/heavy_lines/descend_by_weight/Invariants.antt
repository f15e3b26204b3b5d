-- The line is one of the circuit.
use Rattle.std.proofs.Common.{◌<◌}
use Rattle.netlist.specs.Circuit.{line_count}
use Rattle.search_hints.proofs.heavy_lines.descend_by_weight.Given as goal

abbrev pub invariant-loop : goal.invariant-loop
invariant-loop g l = l.line.0 < line_count l.sight.net.now
