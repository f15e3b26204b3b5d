-- The product is over its limit, and is told.
use Rattle.std.proofs.Common.{refl}
use Rattle.commands.specs.Inside.InputJudging as judging
use Rattle.commands.proofs.inputs.graded.require_few.Goals as goal

pub returns-then-count-gt-MOST_GRADES-clause-fails : goal.returns-then-count-gt-MOST_GRADES-clause-fails
returns-then-count-gt-MOST_GRADES-clause-fails c =
    judging.refused _ refl (record { over = c.if-count-gt-MOST_GRADES.true; is = c.too_many_grades.ensures })
