-- Each turn computes the state of one line more.
use Rattle.std.proofs.Common.{◌<◌, ◌+◌, map, set, sym, ap₂, subst, ◌∙◌, arith}
use Rattle.std.specs.Prelude.{List}
use Rattle.std.proofs.lemmas.List.{length-set}
use Rattle.std.proofs.lemmas.List.Elements.{All-set}
use Rattle.pd_base.specs.declared.ids.LineId.{LineId}
use Rattle.netlist.specs.declared.kind.GateKind.{GateKind}
use Rattle.state_sets.specs.declared.state.State.{State}
use Rattle.state_sets.specs.Narrowing.{gate_state}
use Rattle.pair_judging.specs.ConeStates.{state_in}
use Rattle.pair_judging.proofs.ConePass.{no_gate, AreDone, done_more, done_all}
use Rattle.pair_judging.proofs.judging.compute_all.Goals as goal

pub loop-gate-preserved : goal.loop-gate-preserved
loop-gate-preserved g c =
    let net = c.args.net.now in
    let states = c.loop-gate.states in
    let state = c.gate_state-state.result in
    let line = c.line_of-line.result in
    let place = c.loop-gate.gate-index in
    let before = c.loop-gate.invariant in
    let computed = c.gate_state-state.ensures.state
    ∙ ap₂ (λ (k : GateKind) (ps : List LineId). gate_state g.A.Algebra.algebra k (map (λ (pin : LineId). state_in states pin.0) ps)) c.kind.ensures c.pins.ensures.pins in
    record {
      places = length-set states line.0 state ∙ before.places;
      below = All-set (λ (s : State). s.0 < g.A.Algebra.algebra.count) states line.0 state c.gate_state-state.ensures.in_range before.below;
      done = subst (λ (l : LineId). AreDone g.A.Algebra.algebra g.met.A.Algebra.laws net c.args.gates.now c.args.states.now (place + 1) (set states l.0 state)) (sym c.line_of-line.ensures.line)
          (done_more g.A.Algebra.algebra g.met.A.Algebra.laws net c.args.gates.now c.args.states.now c.lines.ensures.circuit place c.loop-gate-test.true states before.done state computed
          (omega (arith, before.places, c.requires.states.places, c.requires.gates place no_gate c.loop-gate-test.true)));
    }

pub returns-clause-computed : goal.returns-clause-computed
returns-clause-computed g c =
    done_all g.A.Algebra.algebra g.met.A.Algebra.laws c.args.net.now c.args.gates.now c.args.states.now c.loop-gate.gate-index c.loop-gate.states c.loop-gate-test.false c.loop-gate.invariant.done
