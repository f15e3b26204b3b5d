use Rattle.std.proofs.Common.{◌≡◌, ◌≤◌, ◌*◌, take}
use Rattle.netlist.specs.Description.{stated_pins}
use Rattle.net_builder.proofs.limits.count_pins.Given as goal

abbrev pub invariant-loop-place : goal.invariant-loop-place
invariant-loop-place l = (l.count ≡ stated_pins (take l.place l.raw)) × (l.count ≤ 1024 * l.place)
