-- Each turn computes the state of one line more.
use Rattle.std.proofs.Common.{◌≡◌, ◌<◌, ◌+◌, get_or, set, map, get_or-set_other, sym, ap, ap₂, subst, ◌∙◌, arith}
use Rattle.std.specs.Prelude.{List}
use Rattle.std.specs.Int.{bit_at}
use Rattle.std.proofs.lemmas.Bool.{false≢true}
use Rattle.std.proofs.lemmas.List.{length-set}
use Rattle.std.proofs.lemmas.List.Elements.{All-set}
use Rattle.pd_base.specs.Pair.{Vectors}
use Rattle.pd_base.specs.declared.ids.LineId.{LineId}
use Rattle.netlist.specs.declared.kind.GateKind.{GateKind}
use Rattle.netlist.specs.Circuit.{gate_line}
use Rattle.netlist.specs.LinkedPairs.{IsSupported}
use Rattle.state_sets.specs.declared.state.State.{State}
use Rattle.state_sets.specs.States.{Has}
use Rattle.state_sets.specs.LineStates.{state_under}
use Rattle.state_sets.specs.Labellings.{label_at}
use Rattle.state_sets.specs.Narrowing.{gate_state}
use Rattle.pair_judging.specs.ConeStates.{state_in, HasSourceStates}
use Rattle.pair_judging.proofs.ConePass.{no_gate, AreDone, rules_out, done_more, done_all}
use Rattle.pair_judging.proofs.judging.compute_states.Goals as goal

pub returns-then-not-holds-clause-failed : goal.returns-then-not-holds-clause-failed
returns-then-not-holds-clause-failed g c = λ links end are.
    let net = c.args.net.now in
    let states = c.loop-gate.states in
    let labels = c.args.labels.now in
    let state = c.gate_state-state.result in
    let computed = c.gate_state-state.ensures.state
    ∙ ap₂ (λ (k : GateKind) (ps : List LineId). gate_state g.A.Algebra.algebra k (map (λ (pin : LineId). state_in states pin.0) ps)) c.kind.ensures c.pins.ensures.pins in
    let without = λ (has : bit_at (label_at labels (gate_line net (get_or c.args.gates.now c.loop-gate.gate-index no_gate).0)).0 state.0 ≡ 1).
    false≢true (sym c.if-not-holds.true ∙ c.holds.ensures.1
    (subst (λ (l : LineId). bit_at (label_at labels l.0).0 state.0 ≡ 1) (sym c.line_of-line.ensures.line) has)) in
    subst (λ (l : LineId). IsSupported net links end l.0 × ((pair : Vectors) → HasSourceStates g.A.Algebra.algebra net links end c.args.states.now pair
    → Has g.A.Algebra.algebra.count (label_at labels l.0) (state_under g.A.Algebra.algebra net pair l.0) → ⊥)) (sym c.line_of-line.ensures.line)
    (rules_out g.A.Algebra.algebra g.met.A.Algebra.laws net c.args.gates.now c.args.states.now c.lines.ensures.circuit c.loop-gate.gate-index c.loop-gate-test.true states
    c.loop-gate.invariant.done state computed links end are labels without)

pub loop-gate-preserved : goal.loop-gate-preserved
loop-gate-preserved g c =
    let net = c.args.net.now in
    let states = c.loop-gate.states in
    let state = c.gate_state-state.result in
    let line = c.line_of-line.result in
    let place = c.loop-gate.gate-index in
    let before = c.loop-gate.invariant in
    let computed = c.gate_state-state.ensures.state
    ∙ ap₂ (λ (k : GateKind) (ps : List LineId). gate_state g.A.Algebra.algebra k (map (λ (pin : LineId). state_in states pin.0) ps)) c.kind.ensures c.pins.ensures.pins in
    let number = ap (λ (l : LineId). l.0) c.line_of-line.ensures.line in
    record {
      places = length-set states line.0 state ∙ before.places;
      below = All-set (λ (s : State). s.0 < g.A.Algebra.algebra.count) states line.0 state c.gate_state-state.ensures.in_range before.below;
      sources = λ source within.
          get_or-set_other states line.0 source state (record { 0 = 0 }) (λ same. omega (arith, same, number, within)) ∙ before.sources source within;
      done = subst (λ (l : LineId). AreDone g.A.Algebra.algebra g.met.A.Algebra.laws net c.args.gates.now c.args.states.now (place + 1) (set states l.0 state)) (sym c.line_of-line.ensures.line)
          (done_more g.A.Algebra.algebra g.met.A.Algebra.laws net c.args.gates.now c.args.states.now c.lines.ensures.circuit place c.loop-gate-test.true states before.done state computed
          (omega (arith, before.places, c.requires.states.places, c.requires.gates place no_gate c.loop-gate-test.true)));
    }

pub returns-clause-computed : goal.returns-clause-computed
returns-clause-computed g c =
    done_all g.A.Algebra.algebra g.met.A.Algebra.laws c.args.net.now c.args.gates.now c.args.states.now c.loop-gate.gate-index c.loop-gate.states c.loop-gate-test.false c.loop-gate.invariant.done

pub returns-then-not-holds-clause-kept : goal.returns-then-not-holds-clause-kept
returns-then-not-holds-clause-kept g c =
    let states = c.loop-gate.states in let state = c.gate_state-state.result in let line = c.line_of-line.result in
    let before = c.loop-gate.invariant in let number = ap (λ (l : LineId). l.0) c.line_of-line.ensures.line in
    record {
      places = length-set states line.0 state ∙ before.places;
      states = All-set (λ (s : State). s.0 < g.A.Algebra.algebra.count) states line.0 state c.gate_state-state.ensures.in_range before.below;
      sources = λ source within.
          get_or-set_other states line.0 source state (record { 0 = 0 }) (λ same. omega (arith, same, number, within)) ∙ before.sources source within;
    }

pub returns-clause-kept : goal.returns-clause-kept
returns-clause-kept g c = let i = c.loop-gate.invariant in record { places = i.places; states = i.below; sources = i.sources }
