use Rattle.std.proofs.Common.{◌≡◌, map, take}
use Rattle.netlist.specs.Description.{flop_on, flops}
use Rattle.net_builder.proofs.parts.flops_of.Given as goal
use Rattle.net_builder.specs.KnownNames.{known_names}

abbrev pub invariant-loop-place : goal.invariant-loop-place
invariant-loop-place l =
    l.found.items ≡ map (flop_on (known_names l.names)) (flops (take l.place l.raw))
