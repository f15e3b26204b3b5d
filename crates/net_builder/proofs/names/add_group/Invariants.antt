use Rattle.std.proofs.Common.{◌≡◌, ◌++◌, take}
use Rattle.net_builder.proofs.ByLine.{Differ}
use Rattle.net_builder.specs.Groups.{group_names}
use Rattle.net_builder.proofs.names.add_group.Given as goal
use Rattle.net_builder.specs.KnownNames.{known_names}

abbrev pub invariant-loop-place : goal.invariant-loop-place
invariant-loop-place l =
    (known_names l.names ≡ known_names l.initial.names ++ group_names l.group (take l.place l.raw))
    × Differ (known_names l.names)
