use Rattle.std.proofs.Common.{◌≡◌, ◌<◌, drop}
use Rattle.netlist.specs.Circuit.{line_count}
use Rattle.netlist.specs.Paths.{Connects, end_of, line_after}
use Rattle.pair_judging.proofs.path_ends.end_of.Given as goal

-- the steps that are left lead on from the line to the end
abbrev pub invariant-loop-step : goal.invariant-loop-step
invariant-loop-step l = record {
  connects : Connects l.net l.line.0 (drop l.step-index l.step-items);
  within : l.line.0 < line_count l.net;
  leads : line_after l.net l.line.0 (drop l.step-index l.step-items) ≡ end_of l.net l.path;
}
