-- The paths that are lent are the run's.
use Rattle.std.proofs.Common.{List, IfErr, subst}
use Rattle.runs.specs.declared.run.ListedPath.{ListedPath}
use Rattle.pd_io.specs.Seen.{files_seen}
use Rattle.run_files.specs.ReportText.{report_text}
use Rattle.command_line.specs.Commands.{run_call_of}
use Rattle.calls.specs.Outputs.{FailsToWrite}
use Rattle.calls.specs.Work.{due_file}
use Rattle.calls.specs.declared.role.Role.TheVariants as role
use Rattle.commands.proofs.generating.write_report.Goals as goal

pub returns-clause-unwritten : goal.returns-clause-unwritten
returns-clause-unwritten g c =
    let P : List ListedPath → Type 0 =
    λ paths. IfErr c.write_file.result
    (λ ending. FailsToWrite (due_file role.Report (run_call_of c.args.command.now).report (report_text c.args.net.now paths)) ending
    (files_seen g.F.Files c.args.files.now) (files_seen g.F.Files c.write_file.new.files)) in
    subst P c.as_slice.ensures c.write_file.ensures.unwritten
