-- At the end all tests expect the right values.
use Rattle.std.proofs.Common.{All, arith, subst}
use Rattle.std.proofs.lemmas.List.{take_all}
use Rattle.commands.specs.Grading.{ExpectsValues}
use Rattle.commands.proofs.inputs.graded.first_wrong_expected.Goals as goal

pub returns : goal.returns
returns c =
    subst (All (ExpectsValues c.args.net.now))
    (take_all c.loop-place.place c.args.tests.now (let same = c.in_ok-flags.ensures.one_each in omega arith)) c.loop-place.invariant
