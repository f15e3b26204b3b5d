-- One pin more.
use Rattle.std.proofs.Common.{get_or, subst}
use Rattle.pd_base.specs.declared.ids.LineId.{LineId}
use Rattle.state_sets.specs.declared.state.StateSet.{StateSet}
use Rattle.hulls.specs.Sets.{set_at}
use Rattle.hulls.specs.Settling.{IsCutTo}
use Rattle.hulls.proofs.PinCuts.{pin_left, pin_emptied}
use Rattle.hulls.proofs.board.Board.cut_pins.Goals as goal

pub returns-then-eq : goal.returns-then-eq
returns-then-eq g c =
    let count = g.A.Algebra.algebra.count in let net = c.args.net.now in let pins = c.pins-pins.result.now in let pin = c.loop-pin.pin in
    let mid = c.loop-pin.self in let line : LineId = get_or pins pin (record { 0 = 0 }) in
    let cut : IsCutTo count net c.args.passed line.0 (set_at c.args.kept.now pin) mid c.cut_in.new.self =
    subst (λ (s : StateSet). IsCutTo count net c.args.passed line.0 s mid c.cut_in.new.self) c.kept.ensures c.cut_in.ensures.cut in
    record {
      cut = pin_emptied net c.args.passed count c.args.gate.0 c.args.kept.now pins c.pins-pins.ensures.pins c.pins-pins.ensures.in_circuit
          pin c.loop-pin-test.true c.args.self.now mid c.cut_in.new.self c.requires.of.lines c.loop-pin.invariant
          cut c.cut_in.result c.cut_in.ensures.left c.eq.result c.eq.ensures c.if-eq.true;
    }

pub loop-pin-preserved : goal.loop-pin-preserved
loop-pin-preserved g c =
    let count = g.A.Algebra.algebra.count in let net = c.args.net.now in let pins = c.pins-pins.result.now in let pin = c.loop-pin.pin in
    let mid = c.loop-pin.self in let line : LineId = get_or pins pin (record { 0 = 0 }) in
    let cut : IsCutTo count net c.args.passed line.0 (set_at c.args.kept.now pin) mid c.cut_in.new.self =
    subst (λ (s : StateSet). IsCutTo count net c.args.passed line.0 s mid c.cut_in.new.self) c.kept.ensures c.cut_in.ensures.cut in
    pin_left net c.args.passed count c.args.gate.0 c.args.kept.now pins c.pins-pins.ensures.pins c.pins-pins.ensures.in_circuit
    pin c.loop-pin-test.true c.args.self.now mid c.cut_in.new.self c.requires.of.lines c.loop-pin.invariant
    cut c.cut_in.result c.cut_in.ensures.left c.eq.result c.eq.ensures c.if-eq.false
