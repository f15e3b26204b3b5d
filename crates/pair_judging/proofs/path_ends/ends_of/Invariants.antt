use Rattle.std.proofs.Common.{◌≡◌, ◌<◌, take}
use Rattle.std.specs.List.{All}
use Rattle.pd_base.specs.declared.ids.LineId.{LineId}
use Rattle.netlist.specs.Circuit.{line_count}
use Rattle.pair_judging.specs.PathEnds.{ends_of}
use Rattle.pair_judging.proofs.path_ends.ends_of.Given as goal

-- those of the paths so far, which are lines of the circuit
abbrev pub invariant-loop-path : goal.invariant-loop-path
invariant-loop-path l = record {
  ends : l.ends.items ≡ ends_of l.net (take l.path-index l.paths);
  lines : All (λ (end : LineId). end.0 < line_count l.net) l.ends.items;
}
