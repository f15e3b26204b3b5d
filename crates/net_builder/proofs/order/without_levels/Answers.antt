-- One gate more is listed.
use Rattle.std.proofs.Common.{ap, ◌∙◌, arith}
use Rattle.std.proofs.lemmas.Grind.{common_steps}
use Rattle.std.proofs.lemmas.List.{take_all}
use Rattle.net_builder.specs.Ranked.{gates_in}
use Rattle.net_builder.proofs.order.without_levels.Goals as goal

pub loop-gate-preserved : goal.loop-gate-preserved
loop-gate-preserved c = grind (arith, common_steps)

pub returns : goal.returns
returns c =
    c.loop-gate.invariant ∙ ap gates_in (take_all c.loop-gate.gate-index c.args.ranked.now (omega arith))
