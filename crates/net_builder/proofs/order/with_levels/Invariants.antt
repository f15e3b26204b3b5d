use Rattle.std.proofs.Common.{◌≡◌, ◌-◌, ◌≤◌, length, map}
use Rattle.std.specs.List.{range_with_len}
use Rattle.net_builder.proofs.Ranking.{pair_of}
use Rattle.net_builder.proofs.order.with_levels.Given as goal

-- the gates before this one are listed
abbrev pub invariant-loop-line : goal.invariant-loop-line
invariant-loop-line l = record {
  behind : l.sources ≤ l.line;
  within : l.line - l.sources ≤ length l.levels - l.sources;
  listed : l.ranked.items ≡ map (pair_of l.sources l.levels) (range_with_len 0 (l.line - l.sources));
}
