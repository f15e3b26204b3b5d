-- One pin more.
use Rattle.std.proofs.Common.{Bool, List, get_or, take, subst, arith}
use Rattle.std.specs.List.{All}
use Rattle.std.proofs.lemmas.List.{take_all}
use Rattle.std.proofs.lemmas.List.Elements.{All-more, All-weaker}
use Rattle.pd_base.specs.declared.ids.PinRef.{PinRef}
use Rattle.hulls.specs.Awaiting.{gate_turn}
use Rattle.hulls.proofs.Readers.{WaitsIn, more_on}
use Rattle.hulls.proofs.waking.wake_others.Goals as goal

pub loop-pin-preserved : goal.loop-pin-preserved
loop-pin-preserved c =
    let pins = c.args.pins.now in let at = c.loop-pin.pin-index in let none : PinRef = record { gate = record { 0 = 0 }; pin = 0 } in
    let inside = c.args.waiting.now.inside in let passed = c.args.passed in
    let old = c.loop-pin.waiting.waiting in let new = c.wake_gate.new.waiting.waiting in
    record {
      more = more_on c.args.waiting.now c.loop-pin.waiting c.wake_gate.new.waiting c.loop-pin.invariant.more c.wake_gate.ensures.more;
      waits = All-more (λ (p : PinRef). WaitsIn inside passed new p.gate) pins at none (omega arith)
          (All-weaker (λ (p : PinRef). WaitsIn inside passed old p.gate) (λ (p : PinRef). WaitsIn inside passed new p.gate)
          (λ p waits here away. c.wake_gate.ensures.more.stays (gate_turn p.gate.0) (waits here away))
          (take at pins) c.loop-pin.invariant.waits)
          (subst (λ (flags : List Bool). WaitsIn flags passed new (get_or pins at none).gate) c.loop-pin.invariant.more.inside c.wake_gate.ensures.waits);
    }

pub returns-clause-waits : goal.returns-clause-waits
returns-clause-waits c =
    let pins = c.args.pins.now in
    subst (All (λ (p : PinRef). WaitsIn c.args.waiting.now.inside c.args.passed c.loop-pin.waiting.waiting p.gate))
    (take_all c.loop-pin.pin-index pins (omega arith)) c.loop-pin.invariant.waits
