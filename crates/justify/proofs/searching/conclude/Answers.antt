-- Learning leaves the desk the path's; what was found stands, or the test that came later.
use Rattle.std.proofs.Common.{inl, refl, ap, ◌∙◌}
use Rattle.std.specs.Result.{result_from_control_flow}
use Rattle.implication.specs.Scopes.{standing}
use Rattle.pair_judging.specs.Targets.{seen_target}
use Rattle.justify.proofs.Ended.{replaced_outcome}
use Rattle.justify.proofs.TriedSources.{kept_desk}
use Rattle.justify.proofs.searching.conclude.Goals as goal

pub returns-then-eq-clause-desk : goal.returns-then-eq-clause-desk
returns-then-eq-clause-desk g c =
    kept_desk g.A.Algebra.algebra (standing c.args.scope.now).net (standing c.args.scope.now).rules c.args.target.now.path.now c.args.desk.now _
    (record { cone = refl; states = refl; blame = refl; liked = refl; justifier = c.learn.ensures; judge = refl }) c.requires.desk

pub returns-then-eq-clause-found : goal.returns-then-eq-clause-found
returns-then-eq-clause-found g c = inl (c.branch-found.ensures ∙ ap result_from_control_flow c.in_ok-found.is)

pub justify_lines-again-requires-clause-desk : goal.justify_lines-again-requires-clause-desk
justify_lines-again-requires-clause-desk g c =
    kept_desk g.A.Algebra.algebra (standing c.args.scope.now).net (standing c.args.scope.now).rules c.args.target.now.path.now c.args.desk.now _
    (record { cone = refl; states = refl; blame = refl; liked = refl; justifier = c.learn.ensures; judge = refl }) c.requires.desk

pub returns-clause-found : goal.returns-clause-found
returns-clause-found g c =
    replaced_outcome (standing c.args.scope.now).net (standing c.args.scope.now).rules (seen_target c.args.target.now) c.args.ended c.justify_lines-again.result c.in_ok-found.found c.in_ok-or_test.field-0
    (c.branch-found.ensures ∙ ap result_from_control_flow c.in_ok-found.is) c.justify_lines-again.ensures.test c.in_ok-or_test.ensures
