-- The highest line so far is one of the circuit.
use Rattle.std.proofs.Common.{◌<◌}
use Rattle.std.specs.Option.{IfSome}
use Rattle.netlist.specs.Circuit.{line_count}
use Rattle.search_hints.proofs.heavy_lines.highest_open.Given as goal

abbrev pub invariant-loop-change : goal.invariant-loop-change
invariant-loop-change g l = IfSome l.highest (λ line. line.0 < line_count l.sight.net.now)
