use Rattle.std.proofs.Common.{take}
use Rattle.std.specs.List.{All, Contains}
use Rattle.netlist.specs.Description.{defined_names, used_names}
use Rattle.net_builder.proofs.defined.first_undefined.Given as goal

abbrev pub invariant-loop-place : goal.invariant-loop-place
invariant-loop-place l = All (Contains (defined_names l.raw)) (used_names (take l.place l.raw))
