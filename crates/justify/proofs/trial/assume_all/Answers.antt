-- Each source more stays within the trial; a conflict closes it, and where none came all are held.
use Rattle.std.proofs.Common.{◌<◌, ℕ, refl, ap, ◌∙◌, subst, take, arith}
use Rattle.std.specs.Prelude.{is_some}
use Rattle.std.specs.List.{All}
use Rattle.std.proofs.lemmas.List.{take_all}
use Rattle.std.proofs.lemmas.List.Elements.{All-nil}
use Rattle.netlist.specs.Circuit.{Circuit, source_count, line_count}
use Rattle.implication.specs.Scopes.{standing}
use Rattle.implication.specs.Standing.{IsFree}
use Rattle.implication.proofs.Restoring.{extends_itself, extends_trans, same_scope_twice}
use Rattle.pair_judging.specs.Targets.{seen_target}
use Rattle.implication.specs.NodeScopes.{beginning_of}
use Rattle.justify.specs.Trying.{IsWithinTrial, IsHeldIn}
use Rattle.justify.proofs.Assumed.{grown_list, grown_conflict, closed_list, closed_count}
use Rattle.implication.proofs.ScopeLabels.{closes_there}
use Rattle.justify.proofs.Resting.{counted_later}
use Rattle.justify.proofs.Suiting.{told_after}
use Rattle.justify.proofs.Trials.{within_itself, within_more, held_more}
use Rattle.justify.proofs.trial.assume_all.Goals as goal

pub returns-in-Err-clause-trial : goal.returns-in-Err-clause-trial
returns-in-Err-clause-trial g c =
    let first = standing c.args.scope.now in let now = standing c.loop-place.scope in
    let free : IsFree now = record {
      begun = ap is_some (c.loop-place.invariant.extends.beginning ∙ c.requires.node.beginning);
      free = c.loop-place.invariant.held.free;
    } in
    within_more g.A.Algebra.algebra (seen_target c.args.target.now) first now (standing c.assume.new.self) c.args.tried.now c.loop-place.place _
    c.loop-place-test.true (c.requires.tried c.loop-place.place _ c.loop-place-test.true) c.only.result c.only.ensures
    (closed_list g.A.Algebra.algebra.count now (standing c.assume.new.self) _ c.only.result _ (c.in-Err.ensures.tells.err free))
    c.loop-place.invariant.trial

pub returns-in-Err-clause-ends : goal.returns-in-Err-clause-ends
returns-in-Err-clause-ends g c =
    let first = standing c.args.scope.now in let now = standing c.loop-place.scope in let new = standing c.assume.new.self in
    let before = c.loop-place.invariant.extends in
    let free : IsFree now = record { begun = ap is_some (before.beginning ∙ c.requires.node.beginning); free = c.loop-place.invariant.held.free } in
    record {
      closes = closes_there g.A.Algebra.algebra first new (beginning_of (seen_target c.args.target.now)) (c.assume.ensures.extends.net ∙ before.net)
          (c.assume.ensures.extends.rules ∙ before.rules) (c.assume.ensures.extends.beginning ∙ before.beginning ∙ c.requires.node.beginning)
          _ c.in-Err.ensures.tells.emptied;
      counted = counted_later first.closings now.closings new.closings before.later
          (closed_count g.A.Algebra.algebra.count now new _ c.only.result _ (c.in-Err.ensures.tells.err free));
    }

pub loop-place-preserved : goal.loop-place-preserved
loop-place-preserved g c =
    let first = standing c.args.scope.now in let now = standing c.loop-place.scope in let new = standing c.assume.new.self in
    let target = seen_target c.args.target.now in
    let before = c.loop-place.invariant in
    let more = grown_list g.A.Algebra.algebra.count now new _ c.only.result c.in-Ok.ensures.tells.ok in
    let is = c.requires.tried c.loop-place.place _ c.loop-place-test.true in
    record {
      scope = same_scope_twice before.scope c.assume.ensures.scope;
      extends = extends_trans first now new before.extends c.assume.ensures.extends;
      trial = within_more g.A.Algebra.algebra target first now new c.args.tried.now c.loop-place.place _ c.loop-place-test.true is
          c.only.result c.only.ensures more before.trial;
      held = record {
        free = grown_conflict g.A.Algebra.algebra.count now new _ c.only.result c.in-Ok.ensures.tells.ok ∙ before.held.free;
        left_open = c.in-Ok.ensures.tells.left_open;
        held = held_more g.A.Algebra.algebra target first now new c.args.tried.now c.loop-place.place _ c.loop-place-test.true is
            c.only.result c.only.ensures more before.held.held;
      };
    }

pub returns-clause-ends : goal.returns-clause-ends
returns-clause-ends g c =
    let P : _ → Type 0 = λ xs. All (IsHeldIn g.A.Algebra.algebra (seen_target c.args.target.now) (standing c.args.scope.now) (standing c.loop-place.scope)) xs in
    record {
      free = c.loop-place.invariant.held.free;
      left_open = c.loop-place.invariant.held.left_open;
      held = subst P (take_all c.loop-place.place c.args.tried.now c.loop-place-test.false) c.loop-place.invariant.held.held;
    }

pub loop-place-init : goal.loop-place-init
loop-place-init g c =
    let first = standing c.args.scope.now in
    record {
      scope = record { engine = refl; origin = refl };
      extends = extends_itself first;
      trial = within_itself g.A.Algebra.algebra (seen_target c.args.target.now) first (take 0 c.args.tried.now);
      held = record {
        free = c.requires.node.free;
        left_open = c.requires.node.left_open;
        held = All-nil (IsHeldIn g.A.Algebra.algebra (seen_target c.args.target.now) first first);
      };
    }

-- a source is a line
below_lines : (c : Circuit) (source : ℕ) → source < source_count c → source < line_count c
below_lines c source is = omega (arith, is)

pub assume-requires-clause-line : goal.assume-requires-clause-line
assume-requires-clause-line g c =
    let is = (c.requires.tried c.loop-place.place _ c.loop-place-test.true).source.in_support.is_source in
    rw c.loop-place.invariant.extends.net (below_lines (standing c.args.scope.now).net _ is)

pub assume-requires-clause-told : goal.assume-requires-clause-told
assume-requires-clause-told g c =
    let first = standing c.args.scope.now in let now = standing c.loop-place.scope in
    let extends = c.loop-place.invariant.extends in
    told_after first now (record { net = extends.net; rules = extends.rules; ends = extends.ends }) _
    (c.requires.tried c.loop-place.place _ c.loop-place-test.true).source.told

pub returns-in-Err-clause-scope : goal.returns-in-Err-clause-scope
returns-in-Err-clause-scope g c = same_scope_twice c.loop-place.invariant.scope c.assume.ensures.scope

pub returns-in-Err-clause-extends : goal.returns-in-Err-clause-extends
returns-in-Err-clause-extends g c =
    extends_trans (standing c.args.scope.now) (standing c.loop-place.scope) (standing c.assume.new.self)
    c.loop-place.invariant.extends c.assume.ensures.extends

pub returns-clause-scope : goal.returns-clause-scope
returns-clause-scope g c = c.loop-place.invariant.scope

pub returns-clause-extends : goal.returns-clause-extends
returns-clause-extends g c = c.loop-place.invariant.extends

pub returns-clause-trial : goal.returns-clause-trial
returns-clause-trial g c =
    let P : _ → Type 0 = λ xs.
    IsWithinTrial g.A.Algebra.algebra (seen_target c.args.target.now) (standing c.args.scope.now) (standing c.loop-place.scope) xs in
    subst P (take_all c.loop-place.place c.args.tried.now c.loop-place-test.false) c.loop-place.invariant.trial
