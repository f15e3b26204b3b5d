-- The first text that has not its form is told, behind those that have, and last another version; or what they spell.
use Rattle.std.proofs.Common.{ℕ, List, codes, subst, sym}
use Rattle.std.proofs.lemmas.Result.{err_from_is_err_and}
use Rattle.commands.specs.Inside.InputJudging.{FailsProofs, FailsReport, FailsTests}
use Rattle.commands.specs.SpelledTests.{SpellsTests}
use Rattle.commands.specs.Inside.Checking as checking
use Rattle.commands.specs.SpelledRuns.{SpellsProofsOf, SpellsReport}
use Rattle.commands.specs.Inside.Checking.{SpellsNumbered}
use Rattle.commands.proofs.SpelledRuns.{in_version}
use Rattle.commands.proofs.check.spelling.run_in.Goals as goal

pub returns-in_err-tests-clause-fails : goal.returns-in_err-tests-clause-fails
returns-in_err-tests-clause-fails c =
    let p = err_from_is_err_and c.from_residual.result c.from_residual.ensures.1 in
    rw (p.1, p.2) (checking.no_tests
    (subst (λ (text : List ℕ). FailsTests (codes "check") c.args.net.now text c.in_err-tests.field-0.0) c.as_slice.ensures.value
    c.in_err-tests.ensures.fails))

pub returns-in_err-paths-clause-fails : goal.returns-in_err-paths-clause-fails
returns-in_err-paths-clause-fails c =
    let p = err_from_is_err_and c.from_residual-in_err-paths.result c.from_residual-in_err-paths.ensures.1 in
    rw (p.1, p.2) (checking.no_report c.in_ok-tests.tests.items
    (subst (λ (text : List ℕ). SpellsTests c.args.net.now text c.in_ok-tests.tests.items) c.as_slice.ensures.value c.in_ok-tests.ensures.spells)
    (subst (λ (text : List ℕ). FailsReport (codes "check") c.args.net.now text c.in_err-paths.field-0.0) c.as_slice-2.ensures.value
    c.in_err-paths.ensures.fails))

pub returns-in_err-versioned-clause-fails : goal.returns-in_err-versioned-clause-fails
returns-in_err-versioned-clause-fails c =
    let p = err_from_is_err_and c.from_residual-in_err-versioned.result c.from_residual-in_err-versioned.ensures.1 in
    rw (p.1, p.2) (checking.no_proofs c.in_ok-tests.tests.items c.in_ok-paths.paths.items
    (subst (λ (text : List ℕ). SpellsTests c.args.net.now text c.in_ok-tests.tests.items) c.as_slice.ensures.value c.in_ok-tests.ensures.spells)
    (subst (λ (text : List ℕ). SpellsReport c.args.net.now text c.in_ok-paths.paths.items) c.as_slice-2.ensures.value c.in_ok-paths.ensures.spells)
    (subst (λ (text : List ℕ). FailsProofs (codes "check") c.args.net.now text c.in_err-versioned.field-0.0) c.as_slice-3.ensures.value
    c.in_err-versioned.ensures.fails))

pub returns-in_err-rules-clause-fails : goal.returns-in_err-rules-clause-fails
returns-in_err-rules-clause-fails c =
    let p = err_from_is_err_and c.from_residual-in_err-rules.result c.from_residual-in_err-rules.ensures.1 in
    rw (p.1, p.2) (checking.no_rules c.in_ok-tests.tests.items c.in_ok-paths.paths.items c.in_ok-versioned.versioned.version
    c.in_ok-versioned.versioned.proofs.items
    (subst (λ (text : List ℕ). SpellsTests c.args.net.now text c.in_ok-tests.tests.items) c.as_slice.ensures.value c.in_ok-tests.ensures.spells)
    (subst (λ (text : List ℕ). SpellsReport c.args.net.now text c.in_ok-paths.paths.items) c.as_slice-2.ensures.value c.in_ok-paths.ensures.spells)
    (subst (λ (text : List ℕ). SpellsNumbered c.args.net.now text c.in_ok-versioned.versioned.version c.in_ok-versioned.versioned.proofs.items)
    c.as_slice-3.ensures.value c.in_ok-versioned.ensures.spells)
    c.in_err-rules.ensures.fails)

pub returns-clause-spells : goal.returns-clause-spells
returns-clause-spells c = record {
  tests_are = subst (SpellsTests c.args.net.now c.args.texts.now.tests.items) (sym c.new-2.ensures)
      (subst (λ (text : List ℕ). SpellsTests c.args.net.now text c.in_ok-tests.tests.items) c.as_slice.ensures.value c.in_ok-tests.ensures.spells);
  report_is = subst (SpellsReport c.args.net.now c.args.texts.now.report.items) (sym c.new.ensures)
      (subst (λ (text : List ℕ). SpellsReport c.args.net.now text c.in_ok-paths.paths.items) c.as_slice-2.ensures.value c.in_ok-paths.ensures.spells);
  of_mode = c.in_ok-rules.ensures.rules;
  proofs_are = subst (SpellsProofsOf c.args.net.now c.args.texts.now.proofs.items c.in_ok-rules.rules) (sym c.new-3.ensures)
      (in_version c.args.net.now c.args.texts.now.proofs.items c.in_ok-versioned.versioned.version c.in_ok-versioned.versioned.proofs.items
      c.in_ok-rules.rules
      (subst (λ (text : List ℕ). SpellsNumbered c.args.net.now text c.in_ok-versioned.versioned.version c.in_ok-versioned.versioned.proofs.items)
      c.as_slice-3.ensures.value c.in_ok-versioned.ensures.spells) c.in_ok-rules.ensures.version.0 c.in_ok-rules.ensures.version.1
      c.in_ok-rules.ensures.version.2);
}
