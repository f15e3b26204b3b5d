-- The search leaves the scope as it was, and what was found holds there.
use Rattle.std.proofs.Common.{refl, sym, subst, arith}
use Rattle.std.proofs.lemmas.Grind.{common_steps}
use Rattle.pair_judging.specs.Targets.{seen_target}
use Rattle.netlist.specs.Circuit.{Circuit}
use Rattle.netlist.specs.Paths.{IsPrefix}
use Rattle.implication.specs.Scopes.{standing}
use Rattle.pd_base.specs.declared.rules.Rules.{Rules}
use Rattle.implication.proofs.ScopeLabels.{there_too}
use Rattle.justify.specs.Desks.{IsDesk}
use Rattle.justify.proofs.Suiting.{ended_before, made_for, setting_back, setting_restored}
use Rattle.justify.proofs.Ended.{concluded_found, concluded_counts}
use Rattle.justify.proofs.searching.search_at.Goals as goal

pub conclude-requires-clause-prefix : goal.conclude-requires-clause-prefix
conclude-requires-clause-prefix g c =
    let P : Circuit → Type 0 = λ n. IsPrefix n c.args.target.now.path.now in
    subst P (sym c.find-ended.ensures.ends.left.restored.net) c.requires.can.prefix

pub conclude-requires-clause-desk : goal.conclude-requires-clause-desk
conclude-requires-clause-desk g c =
    let left = c.find-ended.ensures.ends.left in
    let P : Circuit → Rules → Type 0 = λ n r. IsDesk g.A.Algebra.algebra n r c.args.target.now.path.now c.find-ended.new.desk in
    there_too P (standing c.args.scope.now).net (standing c.find-ended.new.scope).net (standing c.args.scope.now).rules
    (standing c.find-ended.new.scope).rules (sym left.restored.net) (sym left.restored.rules) left.serves

pub returns-clause-desk : goal.returns-clause-desk
returns-clause-desk g c =
    let left = c.find-ended.ensures.ends.left in
    made_for left.restored.net left.restored.rules c.conclude.ensures.desk.made

pub returns-clause-found : goal.returns-clause-found
returns-clause-found g c =
    let left = c.find-ended.ensures.ends.left in
    concluded_found (standing c.args.scope.now).net (standing c.args.scope.now).rules (seen_target c.args.target.now) c.args.budget
    (standing c.find-ended.new.scope).net (standing c.find-ended.new.scope).rules left.restored.net left.restored.rules
    c.find-ended.result c.find-ended.ensures.ends.found c.conclude.result c.conclude.ensures.found

pub returns-clause-counted : goal.returns-clause-counted
returns-clause-counted g c =
    concluded_counts (standing c.find-ended.new.scope).net (standing c.find-ended.new.scope).rules (seen_target c.args.target.now) c.args.budget
    (standing c.args.scope.now) (standing c.find-ended.new.scope) (standing c.find-ended.new.scope) refl
    c.find-ended.result c.find-ended.ensures.ends.counted c.conclude.result c.conclude.ensures.found

pub returns-clause-restored : goal.returns-clause-restored
returns-clause-restored g c = c.find-ended.ensures.ends.left.restored

pub find-ended-requires-clause-left_open : goal.find-ended-requires-clause-left_open
find-ended-requires-clause-left_open g c = grind (arith, common_steps)

pub find-ended-requires-clause-prefix : goal.find-ended-requires-clause-prefix
find-ended-requires-clause-prefix g c = c.requires.can.prefix

pub find-ended-requires-clause-start : goal.find-ended-requires-clause-start
find-ended-requires-clause-start g c = c.requires.can.start

pub find-ended-requires-clause-budget : goal.find-ended-requires-clause-budget
find-ended-requires-clause-budget g c = c.requires.can.within

pub conclude-requires-clause-ended : goal.conclude-requires-clause-ended
conclude-requires-clause-ended g c =
    let first = standing c.args.scope.now in let last = standing c.find-ended.new.scope in
    ended_before (seen_target c.args.target.now) last first (setting_back first last (setting_restored first last c.find-ended.ensures.ends.left.restored))
    c.find-ended.result c.find-ended.ensures.ends.unfinished

pub returns-clause-unfinished : goal.returns-clause-unfinished
returns-clause-unfinished g c =
    let first = standing c.args.scope.now in let last = standing c.find-ended.new.scope in
    ended_before (seen_target c.args.target.now) first last (setting_restored first last c.find-ended.ensures.ends.left.restored)
    c.conclude.result c.conclude.ensures.unfinished
