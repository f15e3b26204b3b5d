use Rattle.std.proofs.Common.{take}
use Rattle.std.specs.List.{All}
use Rattle.refutation_check.specs.SplitEnds.{IsEndAt, AddsEnds}
use Rattle.refutation_check.proofs.split_ends.push_splits.Given as goal

-- the lines that the nodes before this one split are among the ends
abbrev pub invariant-loop-node : goal.invariant-loop-node
invariant-loop-node l = record {
  adds : AddsEnds l.lines l.initial.ends.items l.ends.items;
  splits : All (IsEndAt l.lines l.ends.items) (take l.node-index l.nodes);
}
