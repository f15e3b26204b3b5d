-- Each turn takes the mark of one line away.
use Rattle.std.proofs.Common.{get_or, ◌∙◌, arith}
use Rattle.std.proofs.lemmas.List.{length-set, get_or_default}
use Rattle.std.specs.Prelude.{false}
use Rattle.pd_base.specs.declared.ids.LineId.{LineId}
use Rattle.cones.proofs.Finding.{clears_next, clears_all}
use Rattle.cones.proofs.found_lines.clear_marks.Goals as goal

pub loop-line-preserved : goal.loop-line-preserved
loop-line-preserved c =
    let next : LineId = get_or c.args.lines.now c.loop-line.line-index (record { 0 = 0 }) in
    let within = c.requires.places c.loop-line.line-index (record { 0 = 0 }) c.loop-line-test.true in
    record {
      places = length-set c.loop-line.marks next.0 false ∙ c.loop-line.invariant.places;
      among = clears_next c.loop-line.marks c.args.lines.now c.loop-line.line-index next c.loop-line-test.true
          (omega (arith, within, c.loop-line.invariant.places))
          (get_or_default c.args.lines.now c.loop-line.line-index next (record { 0 = 0 }) c.loop-line-test.true)
          c.loop-line.invariant.among;
    }

pub returns-clause-none : goal.returns-clause-none
returns-clause-none c = clears_all c.loop-line.marks c.args.lines.now c.loop-line.line-index (omega arith) c.loop-line.invariant.among
