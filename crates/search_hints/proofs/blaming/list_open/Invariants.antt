use Rattle.std.proofs.Common.{◌≡◌, ◌<◌, ◌≤◌, length}
use Rattle.std.specs.List.{All, Contains}
use Rattle.std.specs.Prelude.{vec_capacity}
use Rattle.search_hints.proofs.blaming.list_open.Given as goal

-- the sources that are listed are among the lines
abbrev pub invariant-loop-line : goal.invariant-loop-line
invariant-loop-line l = record {
  capacity : vec_capacity l.list ≡ vec_capacity l.initial.list;
  few : length l.list.items ≤ l.line-index;
  are_sources : All (λ source. source.0 < l.sources) l.list.items;
  among : All (Contains l.lines) l.list.items;
}
