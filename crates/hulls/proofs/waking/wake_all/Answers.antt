-- One pin more.
use Rattle.std.proofs.Common.{Bool, List, get_or, take, subst, arith}
use Rattle.std.specs.List.{All}
use Rattle.std.proofs.lemmas.List.{take_all}
use Rattle.std.proofs.lemmas.List.Elements.{All-more, All-weaker}
use Rattle.pd_base.specs.declared.ids.PinRef.{PinRef}
use Rattle.hulls.specs.declared.turn.Turn.{Turn}
use Rattle.hulls.specs.Awaiting.{gate_turn, IsWoken}
use Rattle.hulls.proofs.Readers.{WaitsInside, more_on}
use Rattle.hulls.proofs.waking.wake_all.Goals as goal

pub loop-pin-preserved : goal.loop-pin-preserved
loop-pin-preserved c =
    let pins = c.args.pins.now in let at = c.loop-pin.pin-index in let none : PinRef = record { gate = record { 0 = 0 }; pin = 0 } in
    let inside = c.args.waiting.now.inside in let old = c.loop-pin.waiting.waiting in let new = c.add.new.self.waiting in
    let woken = subst (λ (turn : Turn). IsWoken turn c.loop-pin.waiting c.add.new.self) c.of_gate.ensures c.add.ensures in
    record {
      more = more_on c.args.waiting.now c.loop-pin.waiting c.add.new.self c.loop-pin.invariant.more woken.more;
      waits = All-more (λ (p : PinRef). WaitsInside inside new p.gate) pins at none (omega arith)
          (All-weaker (λ (p : PinRef). WaitsInside inside old p.gate) (λ (p : PinRef). WaitsInside inside new p.gate)
          (λ p waits here. woken.more.stays (gate_turn p.gate.0) (waits here)) (take at pins) c.loop-pin.invariant.waits)
          (subst (λ (flags : List Bool). WaitsInside flags new (get_or pins at none).gate) c.loop-pin.invariant.more.inside woken.waits);
    }

pub returns-clause-waits : goal.returns-clause-waits
returns-clause-waits c =
    let pins = c.args.pins.now in
    subst (All (λ (p : PinRef). WaitsInside c.args.waiting.now.inside c.loop-pin.waiting.waiting p.gate))
    (take_all c.loop-pin.pin-index pins (omega arith)) c.loop-pin.invariant.waits
