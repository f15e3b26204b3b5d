-- One line more is below, and in the end all of them.
use Rattle.std.proofs.Common.{◌<◌, arith, subst}
use Rattle.std.specs.List.{All}
use Rattle.std.proofs.lemmas.List.{take_all}
use Rattle.std.proofs.lemmas.List.Elements.{All-more}
use Rattle.pd_base.specs.declared.ids.LineId.{LineId}
use Rattle.net_builder.proofs.known.are_below.Goals as goal

pub loop-place-preserved : goal.loop-place-preserved
loop-place-preserved c =
    All-more (λ (line : LineId). line.0 < c.args.lines) c.args.some.now c.loop-place.place (record { 0 = 0 }) (omega arith)
    c.loop-place.invariant (omega (arith, c.if-some-place.false))

pub returns : goal.returns
returns c =
    λ yes. subst (All (λ (line : LineId). line.0 < c.args.lines)) (take_all c.loop-place.place c.args.some.now (omega arith)) c.loop-place.invariant
