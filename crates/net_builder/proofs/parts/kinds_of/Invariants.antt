use Rattle.std.proofs.Common.{◌≡◌, map, take}
use Rattle.netlist.specs.Description.{gates}
use Rattle.net_builder.proofs.parts.kinds_of.Given as goal

abbrev pub invariant-loop-place : goal.invariant-loop-place
invariant-loop-place l =
    l.kinds.items ≡ map (λ gate. gate.kind) (gates (take l.place l.raw))
