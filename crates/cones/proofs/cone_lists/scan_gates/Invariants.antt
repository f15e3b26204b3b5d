use Rattle.std.proofs.Common.{◌≡◌, ◌+◌, false, filter, take, get_or}
use Rattle.std.specs.Prelude.{vec_capacity}
use Rattle.cones.proofs.cone_lists.scan_gates.Given as goal

-- the gates before this place whose lines have marks
abbrev pub invariant-loop-gate : goal.invariant-loop-gate
invariant-loop-gate l = record {
  capacity : vec_capacity l.gates ≡ vec_capacity l.initial.gates;
  items : l.gates.items ≡ filter (λ gate. get_or l.marks (l.sources + gate.0) false) (take l.gate-index l.order);
}
