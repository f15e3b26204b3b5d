-- The set is assumed, or the conflict that it leads to is taken back.
use Rattle.std.proofs.Common.{sym, ap, ◌∙◌, subst, arith}
use Rattle.std.proofs.lemmas.Grind.{common_steps}
use Rattle.netlist.specs.Circuit.{Circuit}
use Rattle.netlist.specs.Paths.{IsPrefix}
use Rattle.pd_base.specs.declared.rules.Rules.{Rules}
use Rattle.implication.specs.Scopes.{standing}
use Rattle.implication.specs.Standing.{Standing}
use Rattle.implication.proofs.ScopeLabels.{there_too}
use Rattle.pair_judging.specs.Targets.{seen_target}
use Rattle.justify.specs.Desks.{IsDesk}
use Rattle.justify.proofs.HeldSources.{held_shuts}
use Rattle.justify.proofs.Visits.{free_at}
use Rattle.justify.proofs.entering.enter.Goals as goal

pub returns-then-is_ok-clause-entered : goal.returns-then-is_ok-clause-entered
returns-then-is_ok-clause-entered g c = grind (arith, common_steps)

pub weigh-requires-clause-prefix : goal.weigh-requires-clause-prefix
weigh-requires-clause-prefix g c =
    let P : Circuit → Type 0 = λ n. IsPrefix n c.args.task.now.target.path.now in
    subst P (sym (c.assume.ensures.extends.net ∙ ap (λ (s : Standing). s.net) c.back_to.ensures.back)) c.requires.prefix

pub weigh-requires-clause-desk : goal.weigh-requires-clause-desk
weigh-requires-clause-desk g c =
    let first = standing c.args.scope.now in let last = standing c.assume.new.self in
    let P : Circuit → Rules → Type 0 = λ n r. IsDesk g.A.Algebra.algebra n r c.args.task.now.target.path.now c.args.desk.now in
    there_too P first.net last.net first.rules last.rules
    (sym (c.assume.ensures.extends.net ∙ ap (λ (s : Standing). s.net) c.back_to.ensures.back))
    (sym (c.assume.ensures.extends.rules ∙ ap (λ (s : Standing). s.rules) c.back_to.ensures.back)) c.requires.desk

pub returns-clause-desk : goal.returns-clause-desk
returns-clause-desk g c =
    let first = standing c.args.scope.now in let last = standing c.assume.new.self in
    let P : Circuit → Rules → Type 0 = λ n r. IsDesk g.A.Algebra.algebra n r c.args.task.now.target.path.now c.weigh.new.desk in
    there_too P last.net first.net last.rules first.rules
    (c.assume.ensures.extends.net ∙ ap (λ (s : Standing). s.net) c.back_to.ensures.back)
    (c.assume.ensures.extends.rules ∙ ap (λ (s : Standing). s.rules) c.back_to.ensures.back) c.weigh.ensures

pub returns-then-is_closed_by_kept-clause-shut : goal.returns-then-is_closed_by_kept-clause-shut
returns-then-is_closed_by_kept-clause-shut g c = λ no.
    let free = ap (λ (s : Standing). s.conflict) c.back_to.ensures.back ∙ free_at (standing c.args.scope.now) c.args.place.now.mark.at c.requires.can.free in
    let here = c.labels.ensures.told free in
    held_shuts g.A.Algebra.algebra (seen_target c.args.task.now.target) c.args.place.now (standing c.args.scope.now) c.requires.kept
    (standing c.back_to.new.self) (standing c.count_conflict.new.scope) c.back_to.ensures.back here.0 here.1
    (c.is_closed_by_kept.ensures c.if-is_closed_by_kept.true) c.count_conflict.ensures.counted
