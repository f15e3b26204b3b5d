-- The pair of the robust search is a robust test.
use Rattle.std.proofs.Common.{◌-◌, ap, subst}
use Rattle.pd_base.specs.Target.{target_of}
use Rattle.pd_base.specs.declared.fault.Kind.TheVariants.{Robust}
use Rattle.prefix_sensitize.specs.declared.outcome.RowOutcome.{RowOutcome}
use Rattle.prefix_sensitize.specs.Answers.{written_by}
use Rattle.prefix_sensitize.specs.Outcomes.{IsOutcome}
use Rattle.prefix_sensitize.specs.Searches.{is_test}
use Rattle.prefix_sensitize.proofs.Answered.{outcome_proof, robust_answers}
use Rattle.prefix_sensitize.proofs.verdicts.Writer.answer.Goals as goal

pub not_robust-requires : goal.not_robust-requires
not_robust-requires g c =
    let asked = c.requires.0 in
    let proved = outcome_proof c.args.net.now g.searches asked.are_searches c.args.fault.now.number c.args.fault.now.path.now asked.is_listed c.args.fault.now.direction
    Robust c.args.outcomes.robust c.in-Proved.proof c.in-Proved.is c.requires.1.robust in
    (asked, (proved, c.requires.1.nonrobust (ap is_test c.in-Proved.is)))

pub returns-in_ok-test-in-Tested-clause-writer : goal.returns-in_ok-test-in-Tested-clause-writer
returns-in_ok-test-in-Tested-clause-writer g c =
    let writer = c.requires.0.is_writer in
    record { judge = writer.judge; found = writer.found; numbers = writer.numbers }

pub returns-in_ok-test-in-Tested-clause-answered : goal.returns-in_ok-test-in-Tested-clause-answered
returns-in_ok-test-in-Tested-clause-answered g c =
    let asked = c.requires.0 in
    let target = target_of c.args.fault.now.path.now c.args.fault.now.direction Robust in
    let P : RowOutcome → Type 0 = λ outcome. IsOutcome c.args.net.now g.searches.rules g.searches.routes g.searches.proofs (c.args.fault.now.number - 1) target outcome in
    robust_answers c.args.net.now g.searches asked.are_searches c.args.fault.now.number c.args.fault.now.path.now asked.is_listed c.args.fault.now.direction
    (written_by c.args.self.now) asked.are_written c.add_test.new.tests.items c.in-Tested.pair c.in_ok-test-in-Tested.test
    (subst P c.in-Tested.is c.requires.1.robust) c.in_ok-test-in-Tested.ensures
