-- The flip-flop of one statement more is listed.
use Rattle.std.proofs.Common.{List, map, ap, ◌∙◌, arith}
use Rattle.std.proofs.lemmas.Grind.{common_steps}
use Rattle.std.proofs.lemmas.List.{take_all}
use Rattle.netlist.specs.Description.{flop_on, flops}
use Rattle.netlist.specs.Statements.{Numbered}
use Rattle.net_builder.specs.KnownNames.{known_names}
use Rattle.net_builder.proofs.parts.flops_of.Goals as goal

pub loop-place-preserved : goal.loop-place-preserved
loop-place-preserved c = grind (arith, common_steps)

pub returns : goal.returns
returns c =
    c.loop-place.invariant
    ∙ ap (λ (some : List Numbered). map (flop_on (known_names c.args.names.now)) (flops some))
    (take_all c.loop-place.place c.args.raw.now (omega (arith, c.len-place-end.ensures.count)))
