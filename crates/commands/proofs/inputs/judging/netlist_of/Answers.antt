-- A fault of the text ends the call so.
use Rattle.std.proofs.Common.{sym, subst}
use Rattle.calls.specs.declared.ending.Ending.{Ending}
use Rattle.commands.specs.Inside.InputJudging.{FailsNet}
use Rattle.commands.proofs.InputFaults.{net_judged}
use Rattle.commands.proofs.inputs.judging.netlist_of.Goals as goal

pub returns-in-Err-clause-fails : goal.returns-in-Err-clause-fails
returns-in-Err-clause-fails c =
    subst (λ (ending : Ending). FailsNet c.args.net.now ending) (sym c.netlist_ending.ensures)
    (net_judged c.args.net.now c.in-Err.fault c.in-Err.ensures.refused)
