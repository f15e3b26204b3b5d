-- Up to the file that was not read; and all three.
use Rattle.std.proofs.lemmas.Result.{err_from_is_err_and}
use Rattle.command_line.specs.Commands.{run_call_of}
use Rattle.commands.proofs.CheckStages.{proofs_read, proofs_unread, report_read, report_unread, tests_read, tests_unread}
use Rattle.commands.specs.RunTexts.{front_inputs}
use Rattle.commands.proofs.check.reading.claim_texts.Goals as goal

pub returns-in_err-tests-clause-reads : goal.returns-in_err-tests-clause-reads
returns-in_err-tests-clause-reads g c =
    let p = err_from_is_err_and c.from_residual.result c.from_residual.ensures.1 in
    let call = run_call_of c.args.command.now in
    rw (p.1, p.2) (λ first net delays scans before. tests_unread call (front_inputs net delays scans) first _ _ _ before c.in_err-tests.ensures.failed)

pub returns-in_err-report-clause-reads : goal.returns-in_err-report-clause-reads
returns-in_err-report-clause-reads g c =
    let p = err_from_is_err_and c.from_residual-in_err-report.result c.from_residual-in_err-report.ensures.1 in
    let call = run_call_of c.args.command.now in
    rw (p.1, p.2) (λ first net delays scans before.
    report_unread call (front_inputs net delays scans) first c.in_ok-tests.tests.items _ _ _
    (tests_read call (front_inputs net delays scans) first c.in_ok-tests.tests _ _ before c.in_ok-tests.ensures.read) c.in_err-report.ensures.failed)

pub returns-in_err-proofs-clause-reads : goal.returns-in_err-proofs-clause-reads
returns-in_err-proofs-clause-reads g c =
    let p = err_from_is_err_and c.from_residual-in_err-proofs.result c.from_residual-in_err-proofs.ensures.1 in
    let call = run_call_of c.args.command.now in
    rw (p.1, p.2) (λ first net delays scans before.
    proofs_unread call (front_inputs net delays scans) first c.in_ok-tests.tests.items c.in_ok-report.report.items _ _ _
    (report_read call (front_inputs net delays scans) first c.in_ok-tests.tests.items c.in_ok-report.report _ _
    (tests_read call (front_inputs net delays scans) first c.in_ok-tests.tests _ _ before c.in_ok-tests.ensures.read) c.in_ok-report.ensures.read)
    c.in_err-proofs.ensures.failed)

pub returns-clause-reads : goal.returns-clause-reads
returns-clause-reads g c first net delays scans before =
    let call = run_call_of c.args.command.now in
    proofs_read call (front_inputs net delays scans) first c.in_ok-tests.tests.items c.in_ok-report.report.items c.in_ok-proofs.proofs _ _
    (report_read call (front_inputs net delays scans) first c.in_ok-tests.tests.items c.in_ok-report.report _ _
    (tests_read call (front_inputs net delays scans) first c.in_ok-tests.tests _ _ before c.in_ok-tests.ensures.read) c.in_ok-report.ensures.read)
    c.in_ok-proofs.ensures.read
