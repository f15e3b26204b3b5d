-- The text was printed, or not.
use Rattle.command_line.specs.ScanForm.{scan_call_of}
use Rattle.commands.specs.Scan.{scan_work}
use Rattle.commands.proofs.Printed.{printed_behind}
use Rattle.commands.proofs.scan.scanning.scan.Goals as goal

pub returns-in-Ok : goal.returns-in-Ok
returns-in-Ok g c =
    printed_behind (scan_work (scan_call_of c.args.command.now)) c.in-Ok.text.items c.as_slice.result.now _ _ _ c.in-Ok.ensures
    c.as_slice.ensures.value c.print.ensures
