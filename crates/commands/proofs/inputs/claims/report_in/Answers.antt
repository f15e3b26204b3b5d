-- What the text spells, or its first line that lacks its form.
use Rattle.std.proofs.Common.{Err, ap, refl, ◌∙◌}
use Rattle.commands.specs.Inside.InputJudging as judging
use Rattle.commands.proofs.SpelledRuns.{malformed_report}
use Rattle.commands.proofs.inputs.claims.report_in.Goals as goal

pub returns-in-Err-Malformed-clause-fails : goal.returns-in-Err-Malformed-clause-fails
returns-in-Err-Malformed-clause-fails c =
    let is = c.in-Err-Malformed.is ∙ ap Err c.in-Err-Malformed.field-0-is in
    judging.refused _ refl (record {
      place = c.in-Err-Malformed.line;
      first = malformed_report c.args.net.now c.args.text.now c.read_report.result c.in-Err-Malformed.line is c.read_report.ensures;
      is = c.malformed.ensures;
    })
