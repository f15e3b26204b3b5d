-- Each visit goes on with the search, and adds a node for which a conflict was counted, or finds a test.
use Rattle.std.proofs.Common.{◌≡◌, ◌∷◌, ◌++◌, [], ℕ, length, refl, sym, subst, arith}
use Rattle.implication.specs.Scopes.{standing}
use Rattle.implication.proofs.Restoring.{same_scope_twice}
use Rattle.justify.specs.Answers.{HasCounted}
use Rattle.justify.proofs.Ended.{counted_more}
use Rattle.justify.proofs.Orders.{no_less}
use Rattle.std.proofs.lemmas.Grind.{common_steps}
use Rattle.std.proofs.lemmas.Result.{err_from_is_err_and}
use Rattle.justify.proofs.GoingOn.{goes_further, grown_some, visit_none, searching_on, searching_popped}
use Rattle.implication.proofs.Settings.{same_twice}
use Rattle.pair_judging.specs.Targets.{seen_target}
use Rattle.justify.proofs.Suiting.{may_end_before}
use Rattle.justify.proofs.searching.grow.Goals as goal

pub returns-in_err-test-clause-goes_on : goal.returns-in_err-test-clause-goes_on
returns-in_err-test-clause-goes_on g c =
    let inv = c.loop-place.invariant in
    goes_further g.A.Algebra.algebra c.args.task.now (standing c.args.scope.now) (standing c.loop-place.scope) (standing c.visit.new.scope) c.visit.new.desk
    inv.setting inv.later c.visit.ensures.goes_on

pub returns-in-Some-test-clause-goes_on : goal.returns-in-Some-test-clause-goes_on
returns-in-Some-test-clause-goes_on g c =
    let inv = c.loop-place.invariant in
    goes_further g.A.Algebra.algebra c.args.task.now (standing c.args.scope.now) (standing c.loop-place.scope) (standing c.visit.new.scope) c.visit.new.desk
    inv.setting inv.later c.visit.ensures.goes_on

pub returns-in-Some-test-clause-answer : goal.returns-in-Some-test-clause-answer
returns-in-Some-test-clause-answer g c =
    grown_some g.A.Algebra.algebra c.args.task.now (standing c.args.scope.now) (standing c.loop-place.scope) (standing c.visit.new.scope) _
    c.visit.new.growth c.visit.new.growth
    c.in_ok-test.test c.in-Some-test.pair c.in-Some-test.is c.loop-place.invariant.setting.net c.loop-place.invariant.setting.rules
    c.in_ok-test.ensures.answer

pub loop-place-preserved : goal.loop-place-preserved
loop-place-preserved g c =
    let task = c.args.task.now in
    let first = standing c.args.scope.now in let middle = standing c.loop-place.scope in let last = standing c.visit.new.scope in
    let inv = c.loop-place.invariant in
    let goes = c.visit.ensures.goes_on in
    let adds = visit_none g.A.Algebra.algebra task middle last _ c.visit.new.growth c.in_ok-test.test c.in_default-test.is c.in_ok-test.ensures.answer in
    let P : ℕ → Type 0 = λ n. HasCounted n first last in
    record {
      scope = same_scope_twice inv.scope c.visit.ensures.scope;
      setting = same_twice first middle last inv.setting goes.setting;
      later = no_less first.closings middle.closings last.closings inv.later goes.later;
      searching = searching_on g.A.Algebra.algebra task middle last c.loop-place.desk c.visit.new.desk _ _ _ c.visit.new.growth inv.searching goes adds;
      counted =
          subst P (sym adds.one_more) (counted_more (length c.loop-place.growth.nodes.items) first middle last inv.counted adds.counted);
    }

pub returns-clause-goes_on : goal.returns-clause-goes_on
returns-clause-goes_on g c =
    let inv = c.loop-place.invariant in
    record { setting = inv.setting; under_way = inv.searching.under_way; serves = inv.searching.serves; later = inv.later }

pub loop-place-init : goal.loop-place-init
loop-place-init g c = grind (arith, common_steps)

pub loop-place-smaller : goal.loop-place-smaller
loop-place-smaller g c = grind (arith, common_steps)

pub visit-requires-clause-searching : goal.visit-requires-clause-searching
visit-requires-clause-searching g c =
    let popped : c.loop-place.growth.places.items ≡ c.pop.new.self.items ++ c.in-Some.place ∷ [] = grind (arith, common_steps) in
    searching_popped g.A.Algebra.algebra c.args.task.now (standing c.loop-place.scope) c.loop-place.desk c.loop-place.growth
    (record c.loop-place.growth { places = c.pop.new.self }) c.in-Some.place refl refl popped c.loop-place.invariant.searching

pub returns-clause-answer : goal.returns-clause-answer
returns-clause-answer g c = grind (arith, common_steps)

pub returns-in_err-test-clause-unfinished : goal.returns-in_err-test-clause-unfinished
returns-in_err-test-clause-unfinished g c =
    let error = err_from_is_err_and c.from_residual.result c.from_residual.ensures.1 in
    rw (error.1, error.2)
    (may_end_before (seen_target c.args.task.now.target) (standing c.args.scope.now) (standing c.loop-place.scope) c.loop-place.invariant.setting
    _ c.in_err-test.ensures.unfinished)
