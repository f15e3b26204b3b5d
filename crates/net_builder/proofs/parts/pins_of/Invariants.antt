use Rattle.std.proofs.Common.{◌≡◌, map, take}
use Rattle.netlist.specs.Description.{gates, line_named}
use Rattle.net_builder.proofs.parts.pins_of.Given as goal
use Rattle.net_builder.specs.KnownNames.{known_names}

abbrev pub invariant-loop-place : goal.invariant-loop-place
invariant-loop-place l =
    l.pins ≡ map (λ gate. map (line_named (known_names l.names)) gate.arguments) (gates (take l.place l.raw))
