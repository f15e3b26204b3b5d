-- The best line so far is a line of the circuit.
use Rattle.std.proofs.Common.{◌<◌, IfSome}
use Rattle.netlist.specs.Circuit.{line_count}
use Rattle.search_hints.proofs.activity.Activity.most_active.Given as goal

abbrev pub invariant-loop-place : goal.invariant-loop-place
invariant-loop-place g l = IfSome l.best (λ line. line.0 < line_count l.region.net.now)
