use Rattle.std.proofs.Common.{◌≡◌, ◌≤◌, length, take}
use Rattle.netlist.specs.Description.{definitions}
use Rattle.net_builder.proofs.limits.count_lines.Given as goal

abbrev pub invariant-loop-place : goal.invariant-loop-place
invariant-loop-place l = (l.count ≡ length (definitions (take l.place l.raw))) × (l.count ≤ l.place)
