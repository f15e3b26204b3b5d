-- The lines so far are listed with their levels.
use Rattle.std.proofs.Common.{◌≡◌, map, take, vec_capacity}
use Rattle.implication.proofs.ByLevel.{entry_of}
use Rattle.implication.proofs.ranking.rank.Given as goal

abbrev pub invariant-loop-line : goal.invariant-loop-line
invariant-loop-line l = record {
  listed : l.ranked.items ≡ map (entry_of l.net) (take l.line-index l.lines);
  room : vec_capacity l.ranked ≡ vec_capacity l.initial.ranked;
}
