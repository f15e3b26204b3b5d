-- The pins of one gate more are below, and in the end those of all gates.
use Rattle.std.proofs.Common.{◌<◌, [], List, refl, arith, subst}
use Rattle.std.specs.List.{All}
use Rattle.std.proofs.lemmas.List.{take_all}
use Rattle.std.proofs.lemmas.List.Elements.{All-more}
use Rattle.pd_base.specs.declared.ids.LineId.{LineId}
use Rattle.net_builder.proofs.known.are_lines.Goals as goal

pub loop-gate-preserved : goal.loop-gate-preserved
loop-gate-preserved c =
    All-more (λ (gate : List LineId). All (λ (line : LineId). line.0 < c.args.lines) gate) c.args.pins.now c.loop-gate.gate []
    (omega arith) c.loop-gate.invariant
    (subst (All (λ (line : LineId). line.0 < c.args.lines)) c.list.ensures (c.if-not-are_below.ensures refl))

pub returns : goal.returns
returns c =
    λ yes. subst (All (λ (gate : List LineId). All (λ (line : LineId). line.0 < c.args.lines) gate))
    (take_all c.loop-gate.gate c.args.pins.now (omega arith)) c.loop-gate.invariant
