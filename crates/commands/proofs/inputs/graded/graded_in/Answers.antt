-- The first reason why the tests can't be graded; or what the texts spell.
use Rattle.std.proofs.Common.{◌≡◌, ◌*◌, ◌<◌, ◌≤◌, ◌^◌, List, All, length, sym, subst}
use Rattle.std.proofs.lemmas.Result.{err_from_is_err_and}
use Rattle.pd_base.specs.declared.test.Test.{Test}
use Rattle.netlist.specs.Circuit.{source_count}
use Rattle.runs.specs.Lawful.{IsNameable}
use Rattle.runs.specs.declared.run.ListedPath.{ListedPath}
use Rattle.commands.specs.Grading.{AreTooManyGrades, ExpectsValues, HaveWrongExpected, HaveWrongPath, ListsPath, grades}
use Rattle.commands.specs.Inside.Grading as grading
use Rattle.commands.specs.Inside.InputJudging.{FailsFor}
use Rattle.commands.specs.declared.inputs.graded.TheConstants.{MOST_GRADES}
use Rattle.commands.proofs.FewListed.{few_faults}
use Rattle.commands.proofs.TestCounts.{few_tests}
use Rattle.commands.proofs.inputs.graded.graded_in.Goals as goal

pub returns-in_err-listed-clause-fails : goal.returns-in_err-listed-clause-fails
returns-in_err-listed-clause-fails c =
    let p = err_from_is_err_and c.from_residual.result c.from_residual.ensures.1 in
    rw (p.1, p.2) (grading.unspelled c.in_err-listed.ensures.fails)

pub require_paths-requires : goal.require_paths-requires
require_paths-requires c =
    subst (λ (paths : List ListedPath). All (λ listed. IsNameable c.args.net.now listed.path) paths) (sym c.as_slice.ensures.value)
    c.in_ok-listed.ensures.spells.report_is.lawful.lawful.nameable

pub returns-in_err-require_paths-clause-fails : goal.returns-in_err-require_paths-clause-fails
returns-in_err-require_paths-clause-fails c =
    let p = err_from_is_err_and c.from_residual-in_err-require_paths.result c.from_residual-in_err-require_paths.ensures.1 in
    rw (p.1, p.2) (grading.ungraded _ _ c.in_ok-listed.ensures.spells (grading.not_paths
    (subst (λ (paths : List ListedPath). FailsFor (HaveWrongPath c.args.command.now c.args.net.now paths) c.in_err-require_paths.field-0.0)
    c.as_slice.ensures.value c.in_err-require_paths.ensures.fails)))

pub require_expected-requires : goal.require_expected-requires
require_expected-requires c =
    subst (λ (tests : List Test). All (λ test. length test.pair.second ≡ source_count c.args.net.now) tests) (sym c.as_slice-2.ensures.value)
    (λ place d within. (c.in_ok-listed.ensures.spells.tests_are.lawful place d within).second)

pub returns-in_err-require_expected-clause-fails : goal.returns-in_err-require_expected-clause-fails
returns-in_err-require_expected-clause-fails c =
    let p = err_from_is_err_and c.from_residual-in_err-require_expected.result c.from_residual-in_err-require_expected.ensures.1 in
    rw (p.1, p.2) (grading.ungraded _ _ c.in_ok-listed.ensures.spells (grading.not_expected
    (subst (λ (paths : List ListedPath). All (ListsPath c.args.net.now) paths) c.as_slice.ensures.value c.in_ok-require_paths.ensures.paths)
    (subst (λ (tests : List Test). FailsFor (HaveWrongExpected c.args.command.now c.args.net.now tests) c.in_err-require_expected.field-0.0)
    c.as_slice-2.ensures.value c.in_err-require_expected.ensures.fails)))

pub require_few-requires-clause-tests : goal.require_few-requires-clause-tests
require_few-requires-clause-tests c =
    subst (λ (tests : List Test). length tests < 2 ^ 32) (sym c.as_slice-3.ensures.value)
    (few_tests c.args.net.now c.args.texts.now.tests.items c.in_ok-listed.listed.tests.items c.requires.tests
    c.in_ok-listed.ensures.spells.tests_are)

pub require_few-requires-clause-faults : goal.require_few-requires-clause-faults
require_few-requires-clause-faults c =
    subst (λ (paths : List ListedPath). 2 * length paths < 2 ^ 32) (sym c.as_slice-4.ensures.value)
    (few_faults c.args.net.now c.args.texts.now.report.items c.in_ok-listed.listed.paths.items c.requires.report
    c.in_ok-listed.ensures.spells.report_is)

pub returns-in_err-require_few-clause-fails : goal.returns-in_err-require_few-clause-fails
returns-in_err-require_few-clause-fails c =
    let p = err_from_is_err_and c.from_residual-in_err-require_few.result c.from_residual-in_err-require_few.ensures.1 in
    rw (p.1, p.2) (grading.ungraded _ _ c.in_ok-listed.ensures.spells (grading.not_few
    (subst (λ (paths : List ListedPath). All (ListsPath c.args.net.now) paths) c.as_slice.ensures.value c.in_ok-require_paths.ensures.paths)
    (subst (λ (tests : List Test). All (ExpectsValues c.args.net.now) tests) c.as_slice-2.ensures.value
    c.in_ok-require_expected.ensures.expected)
    (subst (λ (tests : List Test). FailsFor (AreTooManyGrades tests c.in_ok-listed.listed.paths.items) c.in_err-require_few.field-0.0)
    c.as_slice-3.ensures.value
    (subst (λ (paths : List ListedPath). FailsFor (AreTooManyGrades c.as_slice-3.result.now paths) c.in_err-require_few.field-0.0)
    c.as_slice-4.ensures.value c.in_err-require_few.ensures.fails))))

pub returns-clause-graded : goal.returns-clause-graded
returns-clause-graded c = record {
  are_paths =
      subst (λ (paths : List ListedPath). All (ListsPath c.args.net.now) paths) c.as_slice.ensures.value
      c.in_ok-require_paths.ensures.paths;
  expect =
      subst (λ (tests : List Test). All (ExpectsValues c.args.net.now) tests) c.as_slice-2.ensures.value
      c.in_ok-require_expected.ensures.expected;
  few =
      subst (λ (tests : List Test). grades tests c.in_ok-listed.listed.paths.items ≤ MOST_GRADES) c.as_slice-3.ensures.value
      (subst (λ (paths : List ListedPath). grades c.as_slice-3.result.now paths ≤ MOST_GRADES) c.as_slice-4.ensures.value
      c.in_ok-require_few.ensures.few);
}
