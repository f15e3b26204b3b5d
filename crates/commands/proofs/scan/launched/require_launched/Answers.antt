-- The first test that is not launched is told.
use Rattle.std.proofs.Common.{refl}
use Rattle.commands.specs.Inside.InputJudging as judging
use Rattle.commands.proofs.scan.launched.require_launched.Goals as goal

pub returns-in-Some-clause-fails : goal.returns-in-Some-clause-fails
returns-in-Some-clause-fails c =
    judging.refused _ refl (record { number = c.in-Some.number; first = c.in-Some.ensures; is = c.unlaunched_pair.ensures })
