use Rattle.std.proofs.Common.{◌≡◌}
use Rattle.std.specs.Prelude.{vec_capacity}
use Rattle.cones.proofs.Numbers.{SourceKey, AreCollected}
use Rattle.cones.proofs.cone_lists.number_sources.Given as goal

-- the numbers of the sources before this line
abbrev pub invariant-loop-line : goal.invariant-loop-line
invariant-loop-line l = record {
  capacity : vec_capacity l.numbers ≡ vec_capacity l.initial.numbers;
  collected : AreCollected (SourceKey l.sources) l.lines l.line-index l.numbers.items;
}
