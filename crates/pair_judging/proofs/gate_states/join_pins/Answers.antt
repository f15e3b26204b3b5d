-- One pin more is joined.
use Rattle.std.proofs.Common.{◌<◌, ◌-◌, get_or, length, sym, subst, arith}
use Rattle.pd_base.specs.declared.ids.LineId.{LineId}
use Rattle.state_sets.specs.declared.state.State.{State}
use Rattle.pair_judging.specs.ConeStates.{state_in}
use Rattle.cones.proofs.Spreading.{no_line}
use Rattle.pair_judging.proofs.Joining.{joined_more}
use Rattle.pair_judging.proofs.gate_states.join_pins.Goals as goal

pub loop-pin-preserved : goal.loop-pin-preserved
loop-pin-preserved g c =
    let place = c.loop-pin.pin in
    let pins = c.args.pins.now in
    let states = c.args.states.now in
    let before = c.loop-pin.invariant in
    let some = c.loop-pin-test.true in
    let at : place - 1 < length pins = omega (arith, before.within, some) in
    let pin : LineId = get_or pins (place - 1) no_line in
    let in_range : (state_in states pin.0).0 < g.A.Algebra.algebra.count =
    c.requires.states pin.0 (record { 0 = 0 }) (c.requires.pins (place - 1) no_line at) in
    record {
      within = omega (arith, before.within);
      joins = joined_more g.A.Algebra.algebra c.args.op (λ (l : LineId). state_in states l.0) pins place some before.within c.loop-pin.joined c.join-joined.result
          before.joins c.join-joined.ensures;
      in_range = subst (λ (s : State). s.0 < g.A.Algebra.algebra.count) (sym c.join-joined.ensures)
          (g.met.A.Algebra.laws.join_within c.args.op (state_in states pin.0) c.loop-pin.joined in_range before.in_range);
    }
