-- The last sources close the trial again; or all is as before, and the trial goes on.
use Rattle.std.proofs.Common.{Option, sym, subst}
use Rattle.std.specs.Prelude.{IfSome}
use Rattle.pd_base.specs.Pair.{Vectors}
use Rattle.netlist.specs.Circuit.{Circuit}
use Rattle.pd_base.specs.declared.rules.Rules.{Rules}
use Rattle.implication.specs.Scopes.{standing}
use Rattle.implication.proofs.Restoring.{same_scope_twice}
use Rattle.implication.proofs.ScopeLabels.{there_too}
use Rattle.justify.proofs.Suiting.{suits_restored, setting_restored, ended_before}
use Rattle.justify.specs.Tests.{IsFitTest}
use Rattle.justify.specs.Desks.{IsDesk}
use Rattle.pair_judging.specs.Targets.{seen_target}
use Rattle.justify.proofs.SameNodes.{ok_answer, restored_trans, same_restored, stays_at_node}
use Rattle.justify.proofs.trying.try_node.Goals as goal

pub returns-then-is_closed-clause-answer : goal.returns-then-is_closed-clause-answer
returns-then-is_closed-clause-answer g c = c.in_ok-is_closed.ensures.failed c.if-is_closed.true

pub judge_least-requires-clause-node : goal.judge_least-requires-clause-node
judge_least-requires-clause-node g c =
    let first = standing c.args.scope.now in let now = standing c.closes_by_tried.new.scope in
    stays_at_node g.A.Algebra.algebra (seen_target c.args.target.now) first now (same_restored first now c.closes_by_tried.ensures.restored) c.requires.node

pub judge_least-requires-clause-suits : goal.judge_least-requires-clause-suits
judge_least-requires-clause-suits g c =
    suits_restored g.A.Algebra.algebra (seen_target c.args.target.now) (standing c.args.scope.now) (standing c.closes_by_tried.new.scope)
    c.closes_by_tried.ensures.restored c.requires.suits

pub judge_least-requires-clause-desk : goal.judge_least-requires-clause-desk
judge_least-requires-clause-desk g c =
    let P : Circuit → Rules → Type 0 = λ n r. IsDesk g.A.Algebra.algebra n r c.args.target.now.path.now c.closes_by_tried.new.desk in
    there_too P (standing c.args.scope.now).net (standing c.closes_by_tried.new.scope).net (standing c.args.scope.now).rules
    (standing c.closes_by_tried.new.scope).rules (sym c.closes_by_tried.ensures.restored.net) (sym c.closes_by_tried.ensures.restored.rules)
    c.closes_by_tried.ensures.desk

pub returns-in_err-pair-clause-desk : goal.returns-in_err-pair-clause-desk
returns-in_err-pair-clause-desk g c =
    let P : Circuit → Rules → Type 0 = λ n r. IsDesk g.A.Algebra.algebra n r c.args.target.now.path.now c.judge_least.new.desk in
    there_too P (standing c.closes_by_tried.new.scope).net (standing c.args.scope.now).net (standing c.closes_by_tried.new.scope).rules
    (standing c.args.scope.now).rules c.closes_by_tried.ensures.restored.net c.closes_by_tried.ensures.restored.rules c.judge_least.ensures.desk

pub try_blamed-requires-clause-suits : goal.try_blamed-requires-clause-suits
try_blamed-requires-clause-suits g c =
    suits_restored g.A.Algebra.algebra (seen_target c.args.target.now) (standing c.args.scope.now) (standing c.closes_by_tried.new.scope)
    c.closes_by_tried.ensures.restored c.requires.suits

pub try_blamed-requires-clause-node : goal.try_blamed-requires-clause-node
try_blamed-requires-clause-node g c =
    let first = standing c.args.scope.now in let now = standing c.closes_by_tried.new.scope in
    stays_at_node g.A.Algebra.algebra (seen_target c.args.target.now) first now (same_restored first now c.closes_by_tried.ensures.restored) c.requires.node

pub returns-in-Some-clause-desk : goal.returns-in-Some-clause-desk
returns-in-Some-clause-desk g c =
    let P : Circuit → Rules → Type 0 = λ n r. IsDesk g.A.Algebra.algebra n r c.args.target.now.path.now c.judge_least.new.desk in
    there_too P (standing c.closes_by_tried.new.scope).net (standing c.args.scope.now).net (standing c.closes_by_tried.new.scope).rules
    (standing c.args.scope.now).rules c.closes_by_tried.ensures.restored.net c.closes_by_tried.ensures.restored.rules c.judge_least.ensures.desk

pub returns-in-Some-clause-answer : goal.returns-in-Some-clause-answer
returns-in-Some-clause-answer g c =
    let Q : Option Vectors → Type 0 = λ found. IfSome found
    (IsFitTest (standing c.closes_by_tried.new.scope).net (standing c.closes_by_tried.new.scope).rules (seen_target c.args.target.now)) in
    let P : Circuit → Rules → Type 0 = λ n r. IsFitTest n r (seen_target c.args.target.now) c.in-Some.pair in
    there_too P (standing c.closes_by_tried.new.scope).net (standing c.args.scope.now).net (standing c.closes_by_tried.new.scope).rules
    (standing c.args.scope.now).rules c.closes_by_tried.ensures.restored.net c.closes_by_tried.ensures.restored.rules
    (subst Q c.in-Some.is c.in_ok-pair.ensures.test)

pub returns-in-None-clause-desk : goal.returns-in-None-clause-desk
returns-in-None-clause-desk g c =
    let P : Circuit → Rules → Type 0 = λ n r. IsDesk g.A.Algebra.algebra n r c.args.target.now.path.now c.try_blamed.new.desk in
    there_too P (standing c.closes_by_tried.new.scope).net (standing c.args.scope.now).net (standing c.closes_by_tried.new.scope).rules
    (standing c.args.scope.now).rules c.closes_by_tried.ensures.restored.net c.closes_by_tried.ensures.restored.rules c.try_blamed.ensures.desk

pub returns-in-None-clause-scope : goal.returns-in-None-clause-scope
returns-in-None-clause-scope g c = same_scope_twice c.closes_by_tried.ensures.scope c.try_blamed.ensures.scope

pub returns-in-None-clause-restored : goal.returns-in-None-clause-restored
returns-in-None-clause-restored g c =
    restored_trans (standing c.args.scope.now) (standing c.closes_by_tried.new.scope) (standing c.try_blamed.new.scope)
    c.closes_by_tried.ensures.restored c.try_blamed.ensures.restored

pub returns-in-None-clause-answer : goal.returns-in-None-clause-answer
returns-in-None-clause-answer g c =
    ok_answer g.A.Algebra.algebra (seen_target c.args.target.now) (standing c.args.scope.now) (standing c.closes_by_tried.new.scope) (standing c.try_blamed.new.scope)
    c.closes_by_tried.ensures.restored c.try_blamed.new.desk.closers c.try_blamed.result c.try_blamed.ensures.answer

pub returns-in-None-clause-unfinished : goal.returns-in-None-clause-unfinished
returns-in-None-clause-unfinished g c =
    let now = standing c.args.scope.now in let last = standing c.closes_by_tried.new.scope in
    ended_before (seen_target c.args.target.now) now last (setting_restored now last c.closes_by_tried.ensures.restored) c.try_blamed.result
    c.try_blamed.ensures.unfinished
