-- The state of the source, and then those at the sides of one step after another.
use Rattle.std.proofs.Common.{ℕ, ◌+◌, ◌<◌, List, length, drop, get_or, sym, ap₂, subst, subst₂, ◌∙◌, arith}
use Rattle.std.proofs.lemmas.Bool.{false≢true}
use Rattle.pd_base.specs.declared.ids.LineId.{LineId}
use Rattle.pd_base.specs.declared.ids.PinRef.{PinRef}
use Rattle.netlist.specs.Conditions.{side_condition}
use Rattle.netlist.specs.Paths.{end_of}
use Rattle.netlist.specs.LinkedPairs.{IsSupported}
use Rattle.netlist.specs.LinkedPairs.IsSupported.{in_fan_in}
use Rattle.state_sets.specs.Starts.{IsLaunching}
use Rattle.state_laws.proofs.FanIns.{leads_in_fan_in}
use Rattle.pair_judging.specs.ConeStates.{state_in}
use Rattle.pair_judging.specs.Judged.{StatesPass, IsFailingSide}
use Rattle.pair_judging.proofs.StepStates.{no_step, IsLeftAt, connects_on, left_whole, left_in_fan_in, left_in_circuit, left_more, no_test, failing_in_fan_in, sides_meet, launches_if, launching_if}
use Rattle.pair_judging.proofs.path_states.judge_steps.Goals as goal

pub returns-then-not-launches-clause-within : goal.returns-then-not-launches-clause-within
returns-then-not-launches-clause-within g c = λ links.
    let net = c.args.net.now in
    let path = c.args.target.now.path.now in (
      subst (λ (l : LineId). IsSupported net links (end_of net path) l.0) (sym c.source-then-not-launches.ensures)
          (in_fan_in path.source.0 (leads_in_fan_in net path.source.0 path.steps c.requires.prefix.connects)),
      tt,
    )

pub returns-then-not-launches-clause-judged : goal.returns-then-not-launches-clause-judged
returns-then-not-launches-clause-judged g c = λ pair has meets.
    let states = c.args.states.now in
    false≢true (sym c.if-not-launches.true ∙ c.launches.ensures.1
    (subst (λ (l : LineId). IsLaunching g.A.Algebra.algebra c.args.target.now.direction (state_in states l.0)) (sym c.source-2.ensures)
    (launching_if g.A.Algebra.algebra g.met.A.Algebra.laws c.args.net.now c.args.target.now.kind c.args.target.now.path.now states c.requires.prefix pair has c.args.target.now.direction meets.launches)))

pub loop-step-init : goal.loop-step-init
loop-step-init g c =
    let net = c.args.net.now in
    let path = c.args.target.now.path.now in
    let states = c.args.states.now in
    subst₂ (λ (l : LineId) (steps : List PinRef). IsLeftAt g.A.Algebra.algebra g.met.A.Algebra.laws net c.args.target.now.kind path states l.0 steps) (sym c.source-line.ensures)
    (sym c.steps-step-items.ensures) (left_whole g.A.Algebra.algebra g.met.A.Algebra.laws net c.args.target.now.kind path states c.requires.prefix)

pub failing_side-requires-clause-pins : goal.failing_side-requires-clause-pins
failing_side-requires-clause-pins g c = λ k d inside. omega (arith, c.pins.ensures.in_circuit k d inside, c.requires.states.places)

pub bounds-states-source : goal.bounds-states-source
bounds-states-source g c =
    let net = c.args.net.now in let path = c.args.target.now.path.now in let states = c.args.states.now in
    let within = left_in_circuit g.A.Algebra.algebra g.met.A.Algebra.laws net c.args.target.now.kind path states c.lines.ensures.circuit c.requires.prefix path.source.0 path.steps
    (left_whole g.A.Algebra.algebra g.met.A.Algebra.laws net c.args.target.now.kind path states c.requires.prefix) in
    subst (λ (l : LineId). l.0 < length states) (sym c.source-2.ensures)
    (subst (λ (n : ℕ). path.source.0 < n) (sym c.requires.states.places) within)

pub launches-requires : goal.launches-requires
launches-requires g c =
    let net = c.args.net.now in let path = c.args.target.now.path.now in let states = c.args.states.now in
    let within = left_in_circuit g.A.Algebra.algebra g.met.A.Algebra.laws net c.args.target.now.kind path states c.lines.ensures.circuit c.requires.prefix path.source.0 path.steps
    (left_whole g.A.Algebra.algebra g.met.A.Algebra.laws net c.args.target.now.kind path states c.requires.prefix) in
    c.requires.states.below c.source-2.result.0 (record { 0 = 0 })
    (subst (λ (l : LineId). l.0 < length states) (sym c.source-2.ensures)
    (subst (λ (n : ℕ). path.source.0 < n) (sym c.requires.states.places) within))

pub bounds-states-line : goal.bounds-states-line
bounds-states-line g c =
    let states = c.args.states.now in
    subst (λ (n : ℕ). c.loop-step.line.0 < n) (sym c.requires.states.places)
    (left_in_circuit g.A.Algebra.algebra g.met.A.Algebra.laws c.args.net.now c.args.target.now.kind c.args.target.now.path.now states c.lines.ensures.circuit c.requires.prefix
    c.loop-step.line.0 (drop c.loop-step.step-index c.steps-step-items.result.now) c.loop-step.invariant)

pub last-last-requires : goal.last-last-requires
last-last-requires g c =
    let states = c.args.states.now in
    c.requires.states.below c.loop-step.line.0 (record { 0 = 0 })
    (subst (λ (n : ℕ). c.loop-step.line.0 < n) (sym c.requires.states.places)
    (left_in_circuit g.A.Algebra.algebra g.met.A.Algebra.laws c.args.net.now c.args.target.now.kind c.args.target.now.path.now states c.lines.ensures.circuit c.requires.prefix
    c.loop-step.line.0 (drop c.loop-step.step-index c.steps-step-items.result.now) c.loop-step.invariant))

pub kind-requires : goal.kind-requires
kind-requires g c =
    (connects_on g.A.Algebra.algebra g.met.A.Algebra.laws c.args.net.now c.args.target.now.kind c.args.target.now.path.now c.args.states.now c.steps-step-items.result.now c.loop-step.step-index
    c.loop-step-test.true c.loop-step.line.0 c.loop-step.invariant).0.in_circuit

pub pins-requires : goal.pins-requires
pins-requires g c =
    (connects_on g.A.Algebra.algebra g.met.A.Algebra.laws c.args.net.now c.args.target.now.kind c.args.target.now.path.now c.args.states.now c.steps-step-items.result.now c.loop-step.step-index
    c.loop-step-test.true c.loop-step.line.0 c.loop-step.invariant).0.in_circuit

pub line_of-line-requires : goal.line_of-line-requires
line_of-line-requires g c =
    (connects_on g.A.Algebra.algebra g.met.A.Algebra.laws c.args.net.now c.args.target.now.kind c.args.target.now.path.now c.args.states.now c.steps-step-items.result.now c.loop-step.step-index
    c.loop-step-test.true c.loop-step.line.0 c.loop-step.invariant).0.in_circuit

pub failing_side-requires-clause-states : goal.failing_side-requires-clause-states
failing_side-requires-clause-states g c = c.requires.states.below

pub returns-in-Some-clause-within : goal.returns-in-Some-clause-within
returns-in-Some-clause-within g c = λ links.
    let net = c.args.net.now in
    let path = c.args.target.now.path.now in
    let states = c.args.states.now in
    let steps = c.steps-step-items.result.now in
    let place = c.loop-step.step-index in
    let asks = c.side_condition-condition.ensures ∙ ap₂ (side_condition c.args.target.now.kind) c.kind.ensures c.last-last.ensures in
    let fails : IsFailingSide g.A.Algebra.algebra c.side_condition-condition.result states (get_or steps place no_step).pin c.pins.result.now c.in-Some.side = c.in-Some.ensures in (
      in_fan_in c.loop-step.line.0 (left_in_fan_in g.A.Algebra.algebra g.met.A.Algebra.laws net c.args.target.now.kind path states c.loop-step.line.0 (drop place steps) c.loop-step.invariant),
      in_fan_in c.in-Some.side.0 (failing_in_fan_in g.A.Algebra.algebra g.met.A.Algebra.laws net c.args.target.now.kind path states steps place c.loop-step-test.true c.loop-step.line.0 c.loop-step.invariant
          c.side_condition-condition.result asks c.pins.result.now c.pins.ensures.pins c.in-Some.side fails),
    )

pub returns-in-Some-clause-judged : goal.returns-in-Some-clause-judged
returns-in-Some-clause-judged g c = λ pair has meets.
    let net = c.args.net.now in
    let path = c.args.target.now.path.now in
    let states = c.args.states.now in
    let steps = c.steps-step-items.result.now in
    let place = c.loop-step.step-index in
    let asks = c.side_condition-condition.ensures ∙ ap₂ (side_condition c.args.target.now.kind) c.kind.ensures c.last-last.ensures in
    let fails : IsFailingSide g.A.Algebra.algebra c.side_condition-condition.result states (get_or steps place no_step).pin c.pins.result.now c.in-Some.side = c.in-Some.ensures in
    no_test g.A.Algebra.algebra g.met.A.Algebra.laws net c.args.target.now.kind path states steps place c.loop-step-test.true c.loop-step.line.0 c.loop-step.invariant
    c.side_condition-condition.result asks c.pins.result.now c.pins.ensures.pins c.in-Some.side fails pair has meets.sides

pub loop-step-preserved : goal.loop-step-preserved
loop-step-preserved g c =
    let net = c.args.net.now in
    let path = c.args.target.now.path.now in
    let states = c.args.states.now in
    let steps = c.steps-step-items.result.now in
    let place = c.loop-step.step-index in
    let asks = c.side_condition-condition.ensures ∙ ap₂ (side_condition c.args.target.now.kind) c.kind.ensures c.last-last.ensures in
    let pass : StatesPass g.A.Algebra.algebra c.side_condition-condition.result states (get_or steps place no_step).pin c.pins.result.now = c.in_default.ensures in
    subst (λ (l : LineId). IsLeftAt g.A.Algebra.algebra g.met.A.Algebra.laws net c.args.target.now.kind path states l.0 (drop (place + 1) steps)) (sym c.line_of-line.ensures.line)
    (left_more g.A.Algebra.algebra g.met.A.Algebra.laws net c.args.target.now.kind path states steps place c.loop-step-test.true c.loop-step.line.0 c.loop-step.invariant
    c.side_condition-condition.result asks c.pins.result.now c.pins.ensures.pins pass)

pub returns-clause-judged : goal.returns-clause-judged
returns-clause-judged g c = λ pair has.
    let states = c.args.states.now in
    record {
      launches = launches_if g.A.Algebra.algebra g.met.A.Algebra.laws c.args.net.now c.args.target.now.kind c.args.target.now.path.now states c.requires.prefix pair has c.args.target.now.direction
          (subst (λ (l : LineId). IsLaunching g.A.Algebra.algebra c.args.target.now.direction (state_in states l.0)) c.source-2.ensures
          (c.launches.ensures.0 c.if-not-launches.false));
      sides = sides_meet g.A.Algebra.algebra g.met.A.Algebra.laws c.args.net.now c.args.target.now.kind c.args.target.now.path.now states c.steps-step-items.result.now c.loop-step.step-index c.loop-step.line.0
          c.loop-step-test.false c.loop-step.invariant pair has;
    }
