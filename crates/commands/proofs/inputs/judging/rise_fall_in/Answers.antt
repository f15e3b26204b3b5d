-- A fault of the text ends the call so.
use Rattle.std.proofs.Common.{sym, subst}
use Rattle.delay_annotation.specs.declared.setting.Columns.TheVariants as columns
use Rattle.calls.specs.declared.ending.Ending.{Ending}
use Rattle.commands.specs.Inside.InputJudging.{FailsDelays}
use Rattle.commands.proofs.InputFaults.{delays_judged}
use Rattle.commands.proofs.inputs.judging.rise_fall_in.Goals as goal

pub returns-in-Err-clause-fails : goal.returns-in-Err-clause-fails
returns-in-Err-clause-fails c =
    subst (λ (ending : Ending). FailsDelays columns.RiseAndFall c.args.net.now c.args.delays.now ending) (sym c.delays_ending.ensures)
    (delays_judged columns.RiseAndFall c.args.net.now c.args.delays.now c.in-Err.fault c.in-Err.ensures.refused)
