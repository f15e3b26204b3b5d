-- The judge is made for the run's own tests.
use Rattle.std.proofs.Common.{List, sym, subst}
use Rattle.pd_base.specs.declared.test.Test.{Test}
use Rattle.runs.specs.Lawful.{AreLawfulTests}
use Rattle.claim_check.specs.FaultsInRows.{JudgesTests}
use Rattle.claim_check.proofs.verdicts.wrong_against.Goals as goal

pub judge_for-requires-clause-lawful : goal.judge_for-requires-clause-lawful
judge_for-requires-clause-lawful c = subst (AreLawfulTests c.args.net.now) (sym c.as_slice.ensures) c.requires.lawful

pub first_wrong-requires-clause-judge : goal.first_wrong-requires-clause-judge
first_wrong-requires-clause-judge c =
    subst (λ (tests : List Test). JudgesTests c.args.net.now c.args.run.now.rules tests c.in_ok-judge.judge) c.as_slice.ensures c.in_ok-judge.ensures
