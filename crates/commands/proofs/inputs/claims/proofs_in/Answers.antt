-- What the text spells, or its first line that lacks its form.
use Rattle.std.proofs.Common.{Err, ap, refl, ◌∙◌}
use Rattle.commands.specs.Inside.InputJudging as judging
use Rattle.commands.proofs.SpelledRuns.{malformed_proofs}
use Rattle.commands.proofs.inputs.claims.proofs_in.Goals as goal

pub returns-in-Err-Malformed-clause-fails : goal.returns-in-Err-Malformed-clause-fails
returns-in-Err-Malformed-clause-fails c =
    let is = c.in-Err-Malformed.is ∙ ap Err c.in-Err-Malformed.field-0-is in
    judging.refused _ refl (record {
      place = c.in-Err-Malformed.line;
      first = malformed_proofs c.args.net.now c.args.text.now c.read_proofs.result c.in-Err-Malformed.line is c.read_proofs.ensures;
      is = c.malformed.ensures;
    })
