-- The command was performed, or the words gave none.
use Rattle.std.proofs.Common.{subst}
use Rattle.pd_io.specs.Seen.{seen}
use Rattle.command_line.specs.Words.{asked_call}
use Rattle.command_line.specs.Commands.{bytes_of_words}
use Rattle.commands.proofs.Performing.{asked_performed, fault_performed}
use Rattle.calls.specs.declared.ending.Ending.{Ending}
use Rattle.calls.specs.Calls.{Performs}
use Rattle.commands.specs.Commands.{asked_work}
use Rattle.std.proofs.Common.{sym}
use Rattle.commands.proofs.dispatch.perform.Goals as goal

pub returns-in-Ok : goal.returns-in-Ok
returns-in-Ok g c =
    asked_performed (asked_call (bytes_of_words c.args.words.now)) _ _ _ _ c.in-Ok.ensures.asked c.perform_command.ensures

pub returns-in-Err : goal.returns-in-Err
returns-in-Err g c =
    let files = seen g.F.Files g.O.Sink c.args.files.now c.args.out.now in
    let P : Ending → Type 0 = λ ending. Performs (asked_work (bytes_of_words c.args.words.now)) ending files files in
    subst P (sym c.words_ending.ensures) (fault_performed (asked_call (bytes_of_words c.args.words.now)) _ files c.in-Err.ensures.fault)
