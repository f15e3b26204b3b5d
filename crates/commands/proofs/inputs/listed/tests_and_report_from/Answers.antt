-- Both were read, or one was not.
use Rattle.std.proofs.lemmas.Result.{err_from_is_err_and}
use Rattle.calls.specs.declared.role.Role.TheVariants as role
use Rattle.commands.specs.Inside.TestsAndPaths as both
use Rattle.commands.proofs.StageReads.{read_is_within}
use Rattle.commands.proofs.inputs.listed.tests_and_report_from.Goals as goal

pub returns-in_err-tests-clause-fails : goal.returns-in_err-tests-clause-fails
returns-in_err-tests-clause-fails g c =
    let p = err_from_is_err_and c.from_residual.result c.from_residual.ensures.1 in
    rw (p.1, p.2) (both.no_tests c.in_err-tests.ensures.failed)

pub returns-in_err-report-clause-fails : goal.returns-in_err-report-clause-fails
returns-in_err-report-clause-fails g c =
    let p = err_from_is_err_and c.from_residual-in_err-report.result c.from_residual-in_err-report.ensures.1 in
    rw (p.1, p.2) (both.no_report c.in_ok-tests.tests _ c.in_ok-tests.ensures.read c.in_err-report.ensures.failed)

pub returns-clause-within : goal.returns-clause-within
returns-clause-within g c = record {
  tests = read_is_within role.Tests c.args.tests_name.now c.in_ok-tests.tests _ _ c.in_ok-tests.ensures.read;
  report = read_is_within role.Report c.args.report_name.now c.in_ok-report.report _ _ c.in_ok-report.ensures.read;
}

pub returns-clause-reads : goal.returns-clause-reads
returns-clause-reads g c = record {
  between = _;
  tests = c.in_ok-tests.ensures.read;
  report = c.in_ok-report.ensures.read;
}
