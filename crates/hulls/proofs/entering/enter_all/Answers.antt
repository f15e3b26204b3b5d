-- Each step of a prefix can be entered behind those before it.
use Rattle.std.proofs.Common.{◌<◌, List, length, get_or, sym, ap, ◌∙◌, subst, arith}
use Rattle.std.specs.List.{All}
use Rattle.std.proofs.lemmas.List.{take_all}
use Rattle.pd_base.specs.declared.ids.PinRef.{PinRef}
use Rattle.netlist.specs.Circuit.{line_count}
use Rattle.netlist.specs.Paths.{Connects}
use Rattle.netlist.specs.Pins.{IsPin}
use Rattle.state_sets.specs.Hulls.{condition_at}
use Rattle.hulls.specs.Conditions.{Entered}
use Rattle.hulls.proofs.Prefixes.{pin_fits, pins_of_steps, step_is_first, step_has_room, step_is_pin}
use Rattle.hulls.proofs.entering.enter_all.Goals as goal

pub enter-requires-clause-gate : goal.enter-requires-clause-gate
enter-requires-clause-gate c =
    let source = c.args.prefix.now.source.0 in let steps = c.steps-step-items.result.now in
    let connects = subst (Connects c.args.net.now source) (sym c.steps-step-items.ensures) c.requires.prefix.connects in
    let is = step_is_pin c.args.net.now c.requires.circuit source steps connects c.loop-step.step-index c.loop-step-test.true
    (record { gate = record { 0 = 0 }; pin = 0 }) in
    let e = ap (λ (e : Entered). e.gates) c.loop-step.invariant in
    omega (arith, is.in_circuit, c.requires.gates)

pub enter-requires-clause-pin : goal.enter-requires-clause-pin
enter-requires-clause-pin c =
    let source = c.args.prefix.now.source.0 in let steps = c.steps-step-items.result.now in
    let connects = subst (Connects c.args.net.now source) (sym c.steps-step-items.ensures) c.requires.prefix.connects in
    pin_fits c.args.net.now c.requires.circuit _
    (step_is_pin c.args.net.now c.requires.circuit source steps connects c.loop-step.step-index c.loop-step-test.true
    (record { gate = record { 0 = 0 }; pin = 0 }))

pub enter-requires-clause-first : goal.enter-requires-clause-first
enter-requires-clause-first c =
    let source = c.args.prefix.now.source.0 in let steps = c.steps-step-items.result.now in
    let connects = subst (Connects c.args.net.now source) (sym c.steps-step-items.ensures) c.requires.prefix.connects in
    let step : PinRef = get_or steps c.loop-step.step-index (record { gate = record { 0 = 0 }; pin = 0 }) in
    ap (λ (e : Entered). condition_at e.kind e.steps step.gate.0) c.loop-step.invariant
    ∙ step_is_first c.args.net.now c.requires.circuit source steps connects c.loop-step.step-index c.loop-step-test.true
    (record { gate = record { 0 = 0 }; pin = 0 }) c.args.conditions.now.kind

pub enter-requires-clause-room : goal.enter-requires-clause-room
enter-requires-clause-room c =
    let net = c.args.net.now in
    let source = c.args.prefix.now.source.0 in let steps = c.steps-step-items.result.now in
    let connects = subst (Connects net source) (sym c.steps-step-items.ensures) c.requires.prefix.connects in
    let within : source < line_count net = omega (arith, c.requires.prefix.source) in
    let e = ap (λ (e : Entered). e.room) c.loop-step.invariant in
    let f = ap (λ (e : Entered). length e.steps) c.loop-step.invariant in
    omega (
      arith,
      step_has_room net c.requires.circuit source steps connects c.loop-step.step-index c.loop-step-test.true
          (record { gate = record { 0 = 0 }; pin = 0 }) within,
      c.requires.room,
    )

pub returns-clause-on : goal.returns-clause-on
returns-clause-on c =
    let net = c.args.net.now in
    let source = c.args.prefix.now.source.0 in let steps = c.steps-step-items.result.now in
    let connects = subst (Connects net source) (sym c.steps-step-items.ensures) c.requires.prefix.connects in
    record {
      gates = ap (λ (e : Entered). e.gates) c.loop-step.invariant ∙ c.requires.gates;
      steps = subst (λ (list : List PinRef). All (IsPin net) list)
          (sym (ap (λ (e : Entered). e.steps) c.loop-step.invariant ∙ take_all c.loop-step.step-index steps c.loop-step-test.false))
          (pins_of_steps net c.requires.circuit source steps connects);
    }
