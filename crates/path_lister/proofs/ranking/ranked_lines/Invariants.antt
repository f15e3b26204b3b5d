use Rattle.std.proofs.Common.{◌≡◌, ◌≤◌, ◌+◌, ◌++◌, map, take, vec_len, vec_capacity}
use Rattle.std.specs.List.{range_with_len}
use Rattle.netlist.specs.Circuit.{line_count, source_count}
use Rattle.path_lister.proofs.Ranked.{line_of, own_line}
use Rattle.path_lister.proofs.ranking.ranked_lines.Given as goal

-- the sources before this one are listed
abbrev pub invariant-loop-source : goal.invariant-loop-source
invariant-loop-source l = record {
  listed : l.lines.items ≡ map line_of (range_with_len 0 l.source);
  each : vec_len l.lines ≡ l.source;
  room : line_count l.net ≤ vec_capacity l.lines;
}

-- the sources, and the gates before this one, are listed
abbrev pub invariant-loop-gate : goal.invariant-loop-gate
invariant-loop-gate l = record {
  listed : l.lines.items
      ≡ map line_of (range_with_len 0 (source_count l.net)) ++ map (own_line l.net) (take l.gate-index l.gate-items);
  each : vec_len l.lines ≡ source_count l.net + l.gate-index;
  room : line_count l.net ≤ vec_capacity l.lines;
}
