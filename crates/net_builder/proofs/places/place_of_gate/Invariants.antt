use Rattle.std.proofs.Common.{◌≡◌, ◌+◌, length, take}
use Rattle.netlist.specs.Description.{gate_mentions}
use Rattle.net_builder.proofs.places.place_of_gate.Given as goal

abbrev pub invariant-loop-place : goal.invariant-loop-place
invariant-loop-place l =
    l.left + length (gate_mentions (take l.place l.raw)) ≡ l.gate
