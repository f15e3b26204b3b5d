use Rattle.std.proofs.Common.{◌≡◌, map, take}
use Rattle.std.specs.Prelude.{vec_capacity}
use Rattle.cones.specs.Ranks.{ranked_gate}
use Rattle.cones.proofs.cone_lists.list_gates.Given as goal

-- the gates at the places before this one
abbrev pub invariant-loop-number : goal.invariant-loop-number
invariant-loop-number l = record {
  capacity : vec_capacity l.gates ≡ vec_capacity l.initial.gates;
  items : l.gates.items ≡ map (ranked_gate l.order) (take l.number-index l.numbers);
}
