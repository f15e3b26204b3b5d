use Rattle.std.proofs.Common.{◌≡◌, map, take}
use Rattle.netlist.specs.Description.{line_named, outputs}
use Rattle.net_builder.proofs.parts.named_outputs.Given as goal
use Rattle.net_builder.specs.KnownNames.{known_names}

abbrev pub invariant-loop-place : goal.invariant-loop-place
invariant-loop-place l =
    l.lines.items ≡ map (line_named (known_names l.names)) (outputs (take l.place l.raw))
