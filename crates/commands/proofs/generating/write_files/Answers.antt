-- A file that was not written, behind those that are whole; and all three.
use Rattle.std.proofs.Common.{[], ◌∷◌}
use Rattle.std.proofs.lemmas.Result.{err_from_is_err_and}
use Rattle.command_line.specs.Commands.{run_call_of}
use Rattle.commands.specs.Gen.{proofs_due, report_due, tests_due}
use Rattle.calls.proofs.Outputs.{fails_behind, last_fails, last_whole, none_whole, one_more_whole}
use Rattle.commands.proofs.generating.write_files.Goals as goal

pub returns-in_err-write_tests-clause-unwritten : goal.returns-in_err-write_tests-clause-unwritten
returns-in_err-write_tests-clause-unwritten g c =
    let call = run_call_of c.args.command.now in
    let p = err_from_is_err_and c.from_residual.result c.from_residual.ensures.1 in
    rw (p.1, p.2) (fails_behind [] (tests_due call c.args.net.now c.args.run.now)
    (report_due call c.args.net.now c.args.run.now ∷ proofs_due call c.args.net.now c.args.run.now ∷ []) _ _ _ _ (none_whole _) c.in_err-write_tests.ensures.unwritten)

pub returns-in_err-write_report-clause-unwritten : goal.returns-in_err-write_report-clause-unwritten
returns-in_err-write_report-clause-unwritten g c =
    let call = run_call_of c.args.command.now in
    let p = err_from_is_err_and c.from_residual-in_err-write_report.result c.from_residual-in_err-write_report.ensures.1 in
    rw (p.1, p.2) (fails_behind (tests_due call c.args.net.now c.args.run.now ∷ []) (report_due call c.args.net.now c.args.run.now)
    (proofs_due call c.args.net.now c.args.run.now ∷ []) _ _ _ _ c.in_ok-write_tests.ensures.whole c.in_err-write_report.ensures.unwritten)

pub returns-clause-whole : goal.returns-clause-whole
returns-clause-whole g c =
    let call = run_call_of c.args.command.now in
    last_whole c.write_proofs.result (tests_due call c.args.net.now c.args.run.now ∷ report_due call c.args.net.now c.args.run.now ∷ [])
    (proofs_due call c.args.net.now c.args.run.now) _ _ _ (one_more_whole _ _ _ _ _ c.in_ok-write_tests.ensures.whole c.in_ok-write_report.ensures.whole)
    c.write_proofs.ensures.whole

pub returns-clause-unwritten : goal.returns-clause-unwritten
returns-clause-unwritten g c =
    let call = run_call_of c.args.command.now in
    last_fails c.write_proofs.result (tests_due call c.args.net.now c.args.run.now ∷ report_due call c.args.net.now c.args.run.now ∷ [])
    (proofs_due call c.args.net.now c.args.run.now) _ _ _ (one_more_whole _ _ _ _ _ c.in_ok-write_tests.ensures.whole c.in_ok-write_report.ensures.whole)
    c.write_proofs.ensures.unwritten
