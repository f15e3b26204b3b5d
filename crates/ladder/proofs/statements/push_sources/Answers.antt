-- Each stage adds its sources.
use Rattle.std.proofs.Common.{List, ◌++◌, map, length, sym, ap, ◌∙◌, ◌+◌, arith}
use Rattle.netlist.specs.Statements.{Numbered}
use Rattle.ladder.specs.Ladder.{stage_sources}
use Rattle.ladder.specs.Statements.{input_stated}
use Rattle.ladder.proofs.More.{source_total, sources_more}
use Rattle.ladder.proofs.statements.push_sources.Goals as goal

pub push_stage_sources-requires : goal.push_stage_sources-requires
push_stage_sources-requires c = omega (arith, source_total c.loop-before.before, ap length c.loop-before.invariant)

pub loop-before-preserved : goal.loop-before-preserved
loop-before-preserved c =
    c.in_ok-push_stage_sources.ensures
    ∙ ap (λ (list : List Numbered). list ++ map input_stated (stage_sources (c.loop-before.before + 1))) c.loop-before.invariant
    ∙ sym (sources_more c.loop-before.before)

pub returns-clause-room : goal.returns-clause-room
returns-clause-room c = omega (arith, source_total c.loop-before.before, ap length c.loop-before.invariant)
