-- One data line more is listed, and in the end all are.
use Rattle.std.proofs.Common.{◌≡◌, ◌<◌, ◌++◌, map, All, sym, ap, subst, ◌∙◌, arith}
use Rattle.std.proofs.lemmas.Grind.{common_steps}
use Rattle.std.proofs.lemmas.List.{take_all}
use Rattle.std.proofs.lemmas.List.Elements.{All-append}
use Rattle.pd_base.specs.declared.ids.LineId.{LineId}
use Rattle.net_builder.proofs.once.observed_of.Goals as goal

pub loop-flop-preserved : goal.loop-flop-preserved
loop-flop-preserved c = grind (arith, common_steps)

pub once-requires : goal.once-requires
once-requires c =
    let IsLine : LineId → Type 0 = λ line. line.0 < c.args.total in
    let outputs = c.args.outputs.now in
    let flops = c.args.flops.now in
    let all : c.as_slice.result.now ≡ outputs ++ map (λ (flop : LineId × LineId). flop.1) flops =
    c.as_slice.ensures.value ∙ c.loop-flop.invariant
    ∙ ap (λ some. outputs ++ map (λ (flop : LineId × LineId). flop.1) some) (take_all c.loop-flop.flop-index flops (omega arith)) in
    subst (All IsLine) (sym all)
    (All-append IsLine outputs (map (λ (flop : LineId × LineId). flop.1) flops) c.requires.outputs c.requires.data_lines)
