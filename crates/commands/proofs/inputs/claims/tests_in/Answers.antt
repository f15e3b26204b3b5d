-- What the text spells, or its first line that lacks its form.
use Rattle.std.proofs.Common.{Err, ap, refl, ◌∙◌}
use Rattle.commands.specs.Inside.InputJudging as judging
use Rattle.commands.proofs.SpelledTests.{malformed_tests, spells_tests}
use Rattle.commands.proofs.inputs.claims.tests_in.Goals as goal

pub returns-in-Ok-clause-spells : goal.returns-in-Ok-clause-spells
returns-in-Ok-clause-spells c = spells_tests c.args.net.now c.args.text.now _ c.in-Ok.ensures

pub returns-in-Err-Malformed-clause-fails : goal.returns-in-Err-Malformed-clause-fails
returns-in-Err-Malformed-clause-fails c =
    let is = c.in-Err-Malformed.is ∙ ap Err c.in-Err-Malformed.field-0-is in
    judging.refused _ refl (record {
      place = c.in-Err-Malformed.line;
      first = malformed_tests c.args.net.now c.args.text.now c.read_tests.result c.in-Err-Malformed.line is c.read_tests.ensures;
      is = c.malformed.ensures;
    })
