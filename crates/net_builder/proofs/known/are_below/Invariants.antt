use Rattle.std.proofs.Common.{◌<◌, take}
use Rattle.std.specs.List.{All}
use Rattle.pd_base.specs.declared.ids.LineId.{LineId}
use Rattle.net_builder.proofs.known.are_below.Given as goal

abbrev pub invariant-loop-place : goal.invariant-loop-place
invariant-loop-place l = All (λ (line : LineId). line.0 < l.lines) (take l.place l.some)
