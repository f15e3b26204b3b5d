-- Each turn narrows at one gate; where none waits any more, the labels are the hull.
use Rattle.std.proofs.Common.{sym, subst}
use Rattle.state_laws.specs.Cones.{IsNarrowingIn}
use Rattle.state_laws.proofs.Sweeps.{hull_of_rest, emptied_of_kept}
use Rattle.hulls.specs.Awaiting.{is_inside}
use Rattle.hulls.specs.Settling.{IsNarrowed}
use Rattle.hulls.proofs.Narrowed.{turn_less, awake_taken, narrowed_on, narrowed_resting, rests_inside}
use Rattle.hulls.proofs.board.Board.settle.Goals as goal

pub narrow_turn-requires-clause-awake : goal.narrow_turn-requires-clause-awake
narrow_turn-requires-clause-awake g c =
    let on = c.args.conditions.now in let next = c.next-turn in
    awake_taken g.A.Algebra.algebra c.args.net.now on.kind on.steps c.loop-self.self next.new.self next.result
    next.ensures.waiting next.ensures.labels c.loop-self.invariant.awake

pub loop-self-smaller : goal.loop-self-smaller
loop-self-smaller g c =
    let next = c.next-turn in
    turn_less g.A.Algebra.algebra.count c.loop-self.self next.new.self c.narrow_turn.new.self next.result
    next.ensures.waiting next.ensures.labels c.in_default.ensures.turn.narrowed.inside c.in_default.ensures.turn.falls

pub loop-self-preserved : goal.loop-self-preserved
loop-self-preserved g c =
    let on = c.args.conditions.now in let turn = c.in_default.ensures.turn in let next = c.next-turn in
    record {
      narrowed = narrowed_on g.A.Algebra.algebra c.args.net.now on.kind on.steps c.args.self.now c.loop-self.self next.new.self
          c.narrow_turn.new.self c.loop-self.invariant.narrowed next.ensures.labels turn.narrowed;
      awake = turn.awake;
      some = turn.some;
    }

pub returns-in-Some-clause-emptied : goal.returns-in-Some-clause-emptied
returns-in-Some-clause-emptied g c =
    let on = c.args.conditions.now in let net = c.args.net.now in let next = c.next-turn in
    let all = narrowed_on g.A.Algebra.algebra net on.kind on.steps c.args.self.now c.loop-self.self next.new.self
    c.narrow_turn.new.self c.loop-self.invariant.narrowed next.ensures.labels c.in-Some.ensures.turn.narrowed in (
      c.in-Some.ensures.turn.in_circuit,
      emptied_of_kept g.A.Algebra.algebra net (IsNarrowingIn net (is_inside c.args.self.now.inside) c.args.self.now.links on.kind on.steps)
          c.args.self.now.labels c.narrow_turn.new.self.labels all.keeps c.in-Some.line.0 c.in-Some.ensures.turn.none,
    )

pub returns-in-Some-clause-narrowed : goal.returns-in-Some-clause-narrowed
returns-in-Some-clause-narrowed g c =
    let on = c.args.conditions.now in let net = c.args.net.now in let next = c.next-turn in
    subst (IsNarrowed g.A.Algebra.algebra net on.kind on.steps c.args.self.now) (sym c.rest.ensures)
    (narrowed_resting g.A.Algebra.algebra net on.kind on.steps c.args.self.now c.narrow_turn.new.self
    (narrowed_on g.A.Algebra.algebra net on.kind on.steps c.args.self.now c.loop-self.self next.new.self
    c.narrow_turn.new.self c.loop-self.invariant.narrowed next.ensures.labels c.in-Some.ensures.turn.narrowed))

pub returns-clause-hull : goal.returns-clause-hull
returns-clause-hull g c =
    let on = c.args.conditions.now in let net = c.args.net.now in let a = g.A.Algebra.algebra in
    hull_of_rest a net (IsNarrowingIn net (is_inside c.args.self.now.inside) c.args.self.now.links on.kind on.steps)
    c.args.self.now.labels c.loop-self.self.labels c.loop-self.invariant.narrowed.keeps
    (rests_inside a net on.kind on.steps c.args.self.now c.loop-self.self c.loop-self.invariant.narrowed.inside
    c.loop-self.invariant.narrowed.links (c.is_resting.ensures.0 c.loop-self-test.false) c.loop-self.invariant.awake)
