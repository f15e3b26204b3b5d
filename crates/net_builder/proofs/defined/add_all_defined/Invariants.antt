use Rattle.std.proofs.Common.{◌≡◌, take}
use Rattle.netlist.specs.Description.{AreDistinct, defined_names}
use Rattle.net_builder.proofs.defined.add_all_defined.Given as goal
use Rattle.net_builder.specs.KnownNames.{known_names}

abbrev pub invariant-loop-place : goal.invariant-loop-place
invariant-loop-place l =
    (known_names l.names ≡ defined_names (take l.place l.raw)) × AreDistinct (take l.place l.raw)
