-- The tests that are lent are the run's.
use Rattle.std.proofs.Common.{List, IfErr, subst}
use Rattle.pd_base.specs.declared.test.Test.{Test}
use Rattle.pd_io.specs.Seen.{files_seen}
use Rattle.run_files.specs.TestsText.{tests_text}
use Rattle.command_line.specs.Commands.{run_call_of}
use Rattle.calls.specs.Outputs.{FailsToWrite}
use Rattle.calls.specs.Work.{due_file}
use Rattle.calls.specs.declared.role.Role.TheVariants as role
use Rattle.commands.proofs.generating.write_tests.Goals as goal

pub returns-clause-unwritten : goal.returns-clause-unwritten
returns-clause-unwritten g c =
    let P : List Test → Type 0 =
    λ tests. IfErr c.write_file.result
    (λ ending. FailsToWrite (due_file role.Tests (run_call_of c.args.command.now).tests (tests_text c.args.net.now tests)) ending
    (files_seen g.F.Files c.args.files.now) (files_seen g.F.Files c.write_file.new.files)) in
    subst P c.as_slice.ensures c.write_file.ensures.unwritten
