-- The line rests on the pin that decides alone, or on all pins of its gate.
use Rattle.std.proofs.Common.{inr, List, refl, sym, ap, subst, subst₂, ◌∙◌, arith}
use Rattle.std.specs.List.{Contains}
use Rattle.pd_base.specs.declared.ids.LineId.{LineId}
use Rattle.netlist.specs.Circuit.{kind_at, pins_at}
use Rattle.netlist.specs.Gates.{op_of}
use Rattle.netlist.specs.declared.op.Op.{Op}
use Rattle.state_sets.specs.declared.state.State.{State}
use Rattle.refutation_check.specs.Blames.{IsDeciding}
use Rattle.refutation_check.proofs.Tracing.{made_at, rests_on_all, rests_on_one, states_below}
use Rattle.refutation_check.proofs.blaming.trace_line.Goals as goal

pub returns-in-Some-deciding_pin-clause-traces : goal.returns-in-Some-deciding_pin-clause-traces
returns-in-Some-deciding_pin-clause-traces g c = λ yes.
    let a = g.A.Algebra.algebra in let net = c.args.net.now in let kept = c.args.kept.now in let gate = c.in-Some.gate.0 in
    let inside = c.in-Some.ensures.0 in let pin = c.in-Some-deciding_pin.pin in
    let made = made_at a net kept gate inside c.requires.kept c.index.result.now c.index.ensures c.if-index.false in
    let D : Op → List LineId → List State → Type 0 = λ op pins states. IsDeciding a op states pins pin in
    let op = c.operation.ensures ∙ ap op_of c.kind.ensures in
    let decides = subst (D (op_of (kind_at net gate)) (pins_at net gate)) c.as_slice.ensures.value
    (subst₂ (λ o ps. D o ps c.as_slice.result.now) op c.pins-pins.ensures.pins c.in-Some-deciding_pin.ensures) in
    record {
      more = c.add.ensures.more;
      behind = c.add.ensures.behind;
      rests = rests_on_one a g.met.A.Algebra.laws net c.lines.ensures.circuit kept.states.items gate inside made c.args.line.0 c.in-Some.ensures.1
          c.add.new.self.lines pin decides (states_below a net kept gate inside c.lines.ensures.circuit c.requires.kept)
          ((c.add.ensures.exactly pin.0).1 (inr (0, omega arith, refl)));
    }

pub returns-in-None-clause-traces : goal.returns-in-None-clause-traces
returns-in-None-clause-traces g c = λ yes.
    let a = g.A.Algebra.algebra in let net = c.args.net.now in let kept = c.args.kept.now in let gate = c.in-Some.gate.0 in
    let inside = c.in-Some.ensures.0 in
    let made = made_at a net kept gate inside c.requires.kept c.index.result.now c.index.ensures c.if-index.false in
    record {
      more = c.add_all.ensures.more;
      behind = c.add_all.ensures.behind;
      rests = rests_on_all a g.met.A.Algebra.laws net c.lines.ensures.circuit kept.states.items gate inside made c.args.line.0 c.in-Some.ensures.1
          c.add_all.new.self.lines
          (λ pin among. (c.add_all.ensures.exactly pin.0).1
          (inr (subst (λ (pins : List LineId). Contains pins pin) (sym c.pins-pins.ensures.pins) among)));
    }
