-- Each pin more is entered and counted; where one closes the start of the path, that start closes from the beginning.
use Rattle.std.proofs.Common.{◌≡◌, ℕ, Bool, length, refl, ap, subst, arith}
use Rattle.implication.specs.Scopes.{standing}
use Rattle.implication.proofs.Restoring.{same_scope_twice}
use Rattle.prefix_sensitize.specs.AlongPaths.{IsAtPin, TriesPin}
use Rattle.prefix_sensitize.proofs.Descents.{same_at_once, same_twice, still_along, still_closes}
use Rattle.prefix_sensitize.proofs.descent.Descent.go_on.Goals as goal

pub loop-count-init : goal.loop-count-init
loop-count-init g c = record {
  scope = record { engine = refl; origin = refl };
  same = same_at_once (standing c.args.scope.now);
  stands = c.requires.at;
  farther = omega arith;
  counted = omega arith;
}

pub enter-requires-clause-room : goal.enter-requires-clause-room
enter-requires-clause-room g c =
    omega (arith, c.loop-count.invariant.counted, c.requires.room, c.loop-count-test.true, ap length c.steps-count-end.ensures)

pub enter-requires-clause-along : goal.enter-requires-clause-along
enter-requires-clause-along g c =
    still_along g.A.Algebra.algebra (standing c.args.scope.now) (standing c.loop-count.scope) c.args.path.now c.loop-count.invariant.same c.requires.along

pub enter-requires-clause-at : goal.enter-requires-clause-at
enter-requires-clause-at g c = c.loop-count.invariant.stands

pub returns-in_err-enter-clause-same : goal.returns-in_err-enter-clause-same
returns-in_err-enter-clause-same g c =
    same_twice (standing c.args.scope.now) (standing c.loop-count.scope) (standing c.enter.new.scope)
    c.loop-count.invariant.same c.enter.ensures.same

pub returns-in_err-enter-clause-few : goal.returns-in_err-enter-clause-few
returns-in_err-enter-clause-few g c =
    omega (arith, c.loop-count.invariant.counted, c.enter.ensures.counted, c.loop-count-test.true, ap length c.steps-count-end.ensures)

pub returns-then-not-branch-clause-same : goal.returns-then-not-branch-clause-same
returns-then-not-branch-clause-same g c =
    same_twice (standing c.args.scope.now) (standing c.loop-count.scope) (standing c.enter.new.scope)
    c.loop-count.invariant.same c.enter.ensures.same

pub returns-then-not-branch-clause-few : goal.returns-then-not-branch-clause-few
returns-then-not-branch-clause-few g c =
    omega (arith, c.loop-count.invariant.counted, c.enter.ensures.counted, c.loop-count-test.true, ap length c.steps-count-end.ensures)

pub loop-count-preserved : goal.loop-count-preserved
loop-count-preserved g c =
    let P : Bool → Type 0 = λ tried.
    TriesPin g.A.Algebra.algebra (standing c.loop-count.scope) (standing c.enter.new.scope) c.args.path.now c.loop-count.count c.enter.new.self tried in
    let inv = c.loop-count.invariant in
    record {
      scope = same_scope_twice inv.scope c.enter.ensures.scope;
      same =
          same_twice (standing c.args.scope.now) (standing c.loop-count.scope) (standing c.enter.new.scope) inv.same c.enter.ensures.same;
      stands = subst P c.if-not-branch.false c.in_ok-enter.ensures.tried;
      farther = omega (arith, inv.farther);
      counted = omega (arith, inv.counted, c.enter.ensures.counted);
    }

pub returns-clause-few : goal.returns-clause-few
returns-clause-few g c = omega (arith, c.loop-count.invariant.counted, c.loop-count.invariant.stands.within)

pub returns-then-not-branch-clause-on : goal.returns-then-not-branch-clause-on
returns-then-not-branch-clause-on g c = record {
  farther = c.loop-count.invariant.farther;
  at =
      (let P : Bool → Type 0 = λ tried.
      TriesPin g.A.Algebra.algebra (standing c.loop-count.scope) (standing c.enter.new.scope) c.args.path.now c.loop-count.count c.enter.new.self tried in
      (subst P c.if-not-branch.true c.in_ok-enter.ensures.tried).0);
  closes =
      (λ more.
      let P : Bool → Type 0 = λ tried.
      TriesPin g.A.Algebra.algebra (standing c.loop-count.scope) (standing c.enter.new.scope) c.args.path.now c.loop-count.count c.enter.new.self tried in
      still_closes (standing c.args.scope.now) (standing c.loop-count.scope) _ c.loop-count.invariant.same
      (subst P c.if-not-branch.true c.in_ok-enter.ensures.tried).1);
  counted =
      omega (arith, c.loop-count.invariant.counted, c.enter.ensures.counted, c.loop-count-test.true, ap length c.steps-count-end.ensures);
}

pub returns-clause-on : goal.returns-clause-on
returns-clause-on g c =
    let inv = c.loop-count.invariant in
    let all : c.loop-count.count ≡ length c.steps.result.now =
    omega (arith, inv.stands.within, c.loop-count-test.false, ap length c.steps.ensures, ap length c.steps-count-end.ensures) in
    let P : ℕ → Type 0 =
    λ n. IsAtPin g.A.Algebra.algebra (standing c.loop-count.scope) c.loop-count.self c.args.path.now n in
    record {
      farther = omega (arith, inv.farther, all);
      at = subst P all inv.stands;
      closes = λ more. absurd (omega (arith, more, ap length c.steps.ensures));
      counted =
          omega (
            arith,
            inv.counted,
            inv.stands.within,
            c.loop-count-test.false,
            ap length c.steps.ensures,
            ap length c.steps-count-end.ensures,
          );
    }
