-- The line was printed, or not; or memory ran out before it was made.
use Rattle.command_line.specs.Commands.{make_call_of}
use Rattle.commands.proofs.MakeLaws.{made_performed, made_no_memory}
use Rattle.commands.proofs.making.make.Goals as goal

pub returns-in-Ok : goal.returns-in-Ok
returns-in-Ok g c files =
    made_performed (make_call_of c.args.command.now) _ _ files _ _ _ c.in-Ok.ensures c.as_slice.ensures.value c.print.ensures

pub returns-in-Err : goal.returns-in-Err
returns-in-Err g c files = made_no_memory (make_call_of c.args.command.now) files _
