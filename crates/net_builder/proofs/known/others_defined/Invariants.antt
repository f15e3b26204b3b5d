use Rattle.std.proofs.Common.{take}
use Rattle.std.specs.List.{All, Contains, flat_map}
use Rattle.net_builder.specs.Groups.{other_uses}
use Rattle.net_builder.proofs.known.others_defined.Given as goal
use Rattle.net_builder.specs.KnownNames.{known_names}

abbrev pub invariant-loop-place : goal.invariant-loop-place
invariant-loop-place l =
    All (Contains (known_names l.names)) (flat_map (λ s. other_uses s.statement) (take l.place l.raw))
