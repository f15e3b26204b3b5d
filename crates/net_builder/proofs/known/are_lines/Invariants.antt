use Rattle.std.proofs.Common.{◌<◌, List, take}
use Rattle.std.specs.List.{All}
use Rattle.pd_base.specs.declared.ids.LineId.{LineId}
use Rattle.net_builder.proofs.known.are_lines.Given as goal

abbrev pub invariant-loop-gate : goal.invariant-loop-gate
invariant-loop-gate l = All (λ (gate : List LineId). All (λ (line : LineId). line.0 < l.lines) gate) (take l.gate l.pins)
