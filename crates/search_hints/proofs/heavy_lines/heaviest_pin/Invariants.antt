-- The heaviest pin so far is a line of the circuit.
use Rattle.std.proofs.Common.{◌<◌}
use Rattle.std.specs.Option.{IfSome}
use Rattle.netlist.specs.Circuit.{line_count}
use Rattle.search_hints.proofs.heavy_lines.heaviest_pin.Given as goal

abbrev pub invariant-loop-pin : goal.invariant-loop-pin
invariant-loop-pin g l = IfSome l.heaviest (λ line. line.0 < line_count l.sight.net.now)
