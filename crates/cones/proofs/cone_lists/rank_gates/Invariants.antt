use Rattle.std.proofs.Common.{◌≡◌}
use Rattle.std.specs.Prelude.{vec_capacity}
use Rattle.cones.proofs.Numbers.{GateKey, AreCollected}
use Rattle.cones.proofs.cone_lists.rank_gates.Given as goal

-- the ranks of the gates before this line
abbrev pub invariant-loop-line : goal.invariant-loop-line
invariant-loop-line l = record {
  capacity : vec_capacity l.numbers ≡ vec_capacity l.initial.numbers;
  collected : AreCollected (GateKey l.net l.ranks) l.lines l.line-index l.numbers.items;
}
