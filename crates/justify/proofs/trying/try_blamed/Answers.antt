-- The sources to blame are tried in their least states; where no conflict comes of that, all is as before, and all sources are.
use Rattle.std.proofs.Common.{refl, sym, ap, ◌∙◌, subst, length, List}
use Rattle.std.specs.List.{All}
use Rattle.netlist.specs.Circuit.{Circuit}
use Rattle.pd_base.specs.declared.ids.LineId.{LineId}
use Rattle.state_sets.specs.declared.state.State.{State}
use Rattle.pd_base.specs.declared.rules.Rules.{Rules}
use Rattle.implication.specs.Scopes.{standing}
use Rattle.implication.proofs.ScopeLabels.{there_too}
use Rattle.implication.proofs.Restoring.{same_scope_twice}
use Rattle.justify.specs.declared.trial.Tried.{Tried}
use Rattle.pair_judging.specs.ConeStates.{AreStates}
use Rattle.justify.specs.Desks.{IsDesk, AreInSupport}
use Rattle.pair_judging.specs.Targets.{seen_target}
use Rattle.justify.specs.Trying.{CanTry, HasLeast}
use Rattle.justify.proofs.SameNodes.{same_restored, restored_trans, ok_answer, least_stays, stays_at_node}
use Rattle.justify.proofs.Suiting.{suits_restored, setting_restored, ended_before}
use Rattle.justify.proofs.Trials.{if_there}
use Rattle.justify.proofs.TriedSources.{support_within, all_tried, kept_desk}
use Rattle.justify.proofs.trying.try_blamed.Goals as goal

pub collect-requires-clause-lines : goal.collect-requires-clause-lines
collect-requires-clause-lines g c =
    let net = (standing c.args.scope.now).net in
    let S : List LineId → Type 0 = λ xs. AreInSupport net (standing c.args.scope.now).rules c.args.target.now.path.now xs in
    support_within net (standing c.args.scope.now).rules c.args.target.now.path.now c.sources.result.now (length c.as_slice.result.now)
    (ap length c.as_slice.ensures.value ∙ c.requires.desk.made.states) (subst S (sym c.sources.ensures) c.requires.blames.blamed)

pub collect-requires-clause-states : goal.collect-requires-clause-states
collect-requires-clause-states g c = ap length c.as_slice.ensures.value ∙ c.requires.desk.made.states

pub returns-in_err-collect-clause-desk : goal.returns-in_err-collect-clause-desk
returns-in_err-collect-clause-desk g c =
    kept_desk g.A.Algebra.algebra (standing c.args.scope.now).net (standing c.args.scope.now).rules c.args.target.now.path.now c.args.desk.now _
    (record { cone = refl; states = refl; blame = refl; liked = refl; justifier = refl; judge = refl }) c.requires.desk

pub returns-then-is_some-clause-desk : goal.returns-then-is_some-clause-desk
returns-then-is_some-clause-desk g c =
    kept_desk g.A.Algebra.algebra (standing c.args.scope.now).net (standing c.args.scope.now).rules c.args.target.now.path.now c.args.desk.now _
    (record { cone = refl; states = refl; blame = refl; liked = refl; justifier = refl; judge = refl }) c.requires.desk

pub returns-then-is_some-clause-answer : goal.returns-then-is_some-clause-answer
returns-then-is_some-clause-answer g c =
    if_there c.closes_by.result c.closes_by.ensures.failed (sym c.is_some.ensures ∙ c.if-is_some.true)

pub returns-clause-desk : goal.returns-clause-desk
returns-clause-desk g c =
    let P : Circuit → Rules → Type 0 = λ n r. IsDesk g.A.Algebra.algebra n r c.args.target.now.path.now c.try_all.new.desk in
    there_too P (standing c.closes_by.new.scope).net (standing c.args.scope.now).net (standing c.closes_by.new.scope).rules
    (standing c.args.scope.now).rules c.closes_by.ensures.restored.net c.closes_by.ensures.restored.rules c.try_all.ensures.desk

pub returns-clause-scope : goal.returns-clause-scope
returns-clause-scope g c = same_scope_twice c.closes_by.ensures.scope c.try_all.ensures.scope

pub returns-clause-restored : goal.returns-clause-restored
returns-clause-restored g c =
    restored_trans (standing c.args.scope.now) (standing c.closes_by.new.scope) (standing c.try_all.new.scope)
    c.closes_by.ensures.restored c.try_all.ensures.restored

pub closes_by-requires-clause-tried : goal.closes_by-requires-clause-tried
closes_by-requires-clause-tried g c =
    let now = standing c.args.scope.now in let target = seen_target c.args.target.now in
    let P : List Tried → Type 0 = λ xs. All (CanTry g.A.Algebra.algebra target now) xs in
    let Q : List State → Type 0 = λ xs. HasLeast g.A.Algebra.algebra target now xs in
    let R : List State → Type 0 = λ xs. AreStates g.A.Algebra.algebra.count xs in
    let S : List LineId → Type 0 = λ xs. AreInSupport now.net now.rules c.args.target.now.path.now xs in
    let same = sym c.as_slice.ensures.value in
    subst P (sym c.as_slice-2.ensures.value)
    (all_tried g.A.Algebra.algebra target now c.sources.result.now c.as_slice.result.now c.collect.new.tried.items c.in_ok-collect.ensures
    (subst S (sym c.sources.ensures) c.requires.blames.blamed)
    (subst Q same c.requires.blames.least) (subst R same c.requires.desk.made.within)
    (ap length c.as_slice.ensures.value ∙ c.requires.desk.made.states))

pub try_all-requires-clause-least : goal.try_all-requires-clause-least
try_all-requires-clause-least g c =
    let now = standing c.args.scope.now in
    least_stays g.A.Algebra.algebra (seen_target c.args.target.now) now (standing c.closes_by.new.scope)
    (same_restored now (standing c.closes_by.new.scope) c.closes_by.ensures.restored)
    c.args.desk.now.states.items c.requires.blames.least

pub returns-clause-answer : goal.returns-clause-answer
returns-clause-answer g c =
    ok_answer g.A.Algebra.algebra (seen_target c.args.target.now) (standing c.args.scope.now) (standing c.closes_by.new.scope) (standing c.try_all.new.scope)
    c.closes_by.ensures.restored c.try_all.new.desk.closers c.try_all.result c.try_all.ensures.answer

pub try_all-requires-clause-suits : goal.try_all-requires-clause-suits
try_all-requires-clause-suits g c =
    suits_restored g.A.Algebra.algebra (seen_target c.args.target.now) (standing c.args.scope.now) (standing c.closes_by.new.scope)
    c.closes_by.ensures.restored c.requires.suits

pub try_all-requires-clause-node : goal.try_all-requires-clause-node
try_all-requires-clause-node g c =
    let now = standing c.args.scope.now in
    stays_at_node g.A.Algebra.algebra (seen_target c.args.target.now) now (standing c.closes_by.new.scope)
    (same_restored now (standing c.closes_by.new.scope) c.closes_by.ensures.restored) c.requires.node

pub try_all-requires-clause-desk : goal.try_all-requires-clause-desk
try_all-requires-clause-desk g c =
    let after = record c.args.desk.now { tried = c.collect.new.tried; closers = c.closes_by.new.closers } in
    let P : Circuit → Rules → Type 0 = λ n r. IsDesk g.A.Algebra.algebra n r c.args.target.now.path.now after in
    there_too P (standing c.args.scope.now).net (standing c.closes_by.new.scope).net (standing c.args.scope.now).rules
    (standing c.closes_by.new.scope).rules (sym c.closes_by.ensures.restored.net) (sym c.closes_by.ensures.restored.rules)
    (kept_desk g.A.Algebra.algebra (standing c.args.scope.now).net (standing c.args.scope.now).rules c.args.target.now.path.now
    c.args.desk.now after (record { cone = refl; states = refl; blame = refl; liked = refl; justifier = refl; judge = refl }) c.requires.desk)

pub returns-clause-unfinished : goal.returns-clause-unfinished
returns-clause-unfinished g c =
    let now = standing c.args.scope.now in let last = standing c.closes_by.new.scope in
    ended_before (seen_target c.args.target.now) now last (setting_restored now last c.closes_by.ensures.restored) c.try_all.result
    c.try_all.ensures.unfinished
