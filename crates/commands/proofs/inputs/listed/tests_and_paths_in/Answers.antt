-- What the texts spell, or the first of them that lacks its form.
use Rattle.std.proofs.Common.{ℕ, List, subst}
use Rattle.std.proofs.lemmas.Result.{err_from_is_err_and}
use Rattle.commands.specs.Inside.InputJudging.{FailsReport, FailsTests}
use Rattle.commands.specs.Inside.TestsAndPaths as both
use Rattle.commands.specs.SpelledTests.{SpellsTests}
use Rattle.commands.proofs.inputs.listed.tests_and_paths_in.Goals as goal

pub returns-in_err-tests-clause-fails : goal.returns-in_err-tests-clause-fails
returns-in_err-tests-clause-fails c =
    let p = err_from_is_err_and c.from_residual.result c.from_residual.ensures.1 in
    rw (p.1, p.2) (both.no_form_of_tests
    (subst (λ (text : List ℕ). FailsTests c.args.command.now c.args.net.now text c.in_err-tests.field-0.0) c.as_slice.ensures.value
    c.in_err-tests.ensures.fails))

pub returns-in_err-paths-clause-fails : goal.returns-in_err-paths-clause-fails
returns-in_err-paths-clause-fails c =
    let p = err_from_is_err_and c.from_residual-in_err-paths.result c.from_residual-in_err-paths.ensures.1 in
    rw (p.1, p.2) (both.no_form_of_report c.in_ok-tests.tests.items
    (subst (λ (text : List ℕ). SpellsTests c.args.net.now text c.in_ok-tests.tests.items) c.as_slice.ensures.value c.in_ok-tests.ensures.spells)
    (subst (λ (text : List ℕ). FailsReport c.args.command.now c.args.net.now text c.in_err-paths.field-0.0) c.as_slice-2.ensures.value
    c.in_err-paths.ensures.fails))
