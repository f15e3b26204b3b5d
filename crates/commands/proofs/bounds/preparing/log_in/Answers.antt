-- A fault of the text ends the call so.
use Rattle.std.proofs.Common.{length, sym, subst}
use Rattle.calls.specs.declared.ending.Ending.{Ending}
use Rattle.commands.specs.Inside.BoundsJudging.{FailsLog}
use Rattle.commands.proofs.BoundsStages.{log_judged}
use Rattle.commands.proofs.bounds.preparing.log_in.Goals as goal

pub returns-in-Err-clause-fails : goal.returns-in-Err-clause-fails
returns-in-Err-clause-fails c =
    subst (λ (ending : Ending). FailsLog (length c.args.tests.now) c.args.text.now ending) (sym c.log_ending.ensures)
    (log_judged (length c.args.tests.now) c.args.text.now c.in-Err.fault c.in-Err.ensures.refused)
