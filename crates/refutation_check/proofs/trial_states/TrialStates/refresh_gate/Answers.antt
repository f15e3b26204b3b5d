-- The gate's line is in the state that the gate makes, and stays so, since the gate does not read it.
use Rattle.std.proofs.Common.{◌≡◌, ◌≢◌, ⊎_elim, false, true, List, get_or, set, get_or-set_same, get_or-set_other, map, sym, ap, ap₂, subst, ◌∙◌, arith}
use Rattle.std.specs.List.{All}
use Rattle.std.proofs.lemmas.Bool.{cases_eq}
use Rattle.pd_base.specs.declared.ids.LineId.{LineId}
use Rattle.netlist.specs.declared.kind.GateKind.{GateKind}
use Rattle.netlist.specs.Circuit.{gate_line, kind_at, pins_at}
use Rattle.state_sets.specs.declared.state.State.{State}
use Rattle.state_sets.specs.Narrowing.{gate_state}
use Rattle.pair_judging.specs.ConeStates.{state_in}
use Rattle.refutation_check.specs.TrialStates.{IsStaleOrMade, IsPutAt}
use Rattle.refutation_check.proofs.TrialStates.{made_own}
use Rattle.refutation_check.proofs.trial_states.TrialStates.refresh_gate.Goals as goal

pub returns-clause-kept : goal.returns-clause-kept
returns-clause-kept g c =
    let net = c.args.net.now in let old = c.args.self.now in let gate = c.args.gate.0 in let new = c.put.new.self in
    let state = c.gate_state-state.result in
    let Made : List State → Type 0 =
    λ states. state ≡ gate_state g.A.Algebra.algebra (kind_at net gate) (map (λ (pin : LineId). state_in states pin.0) (pins_at net gate)) in
    let made = subst Made c.as_slice.ensures.value
    (c.gate_state-state.ensures.state
    ∙ ap₂ (λ (k : GateKind) (ps : List LineId). gate_state g.A.Algebra.algebra k (map (λ (pin : LineId). state_in c.as_slice.result.now pin.0) ps))
    c.kind.ensures c.pins.ensures.pins) in
    let written = subst (λ (l : LineId). IsPutAt l.0 state old.states.items new.states.items) c.line_of.ensures.line c.put.ensures.written in
    let line : c.line_of.result.0 ≡ gate_line net gate = ap (λ (l : LineId). l.0) c.line_of.ensures.line in
    record {
      room = c.put.ensures.room;
      made = λ other within. ⊎_elim
          (λ (same : other ≡ gate). subst (IsStaleOrMade g.A.Algebra.algebra net new) (sym same)
          (λ not. made_own g.A.Algebra.algebra net gate old.states.items new.states.items state written made c.requires.others))
          (λ (away : other ≢ gate). c.put.ensures.made other within (λ drives. away (omega (arith, drives, line)))
          (λ not. c.requires.kept.made other within (sym (get_or-set_other old.stale.items gate other false true away) ∙ not)))
          (cases_eq other gate);
    }

pub returns-clause-fresh : goal.returns-clause-fresh
returns-clause-fresh g c =
    let net = c.args.net.now in let old = c.args.self.now in let gate = c.args.gate.0 in
    c.put.ensures.fresh gate (get_or-set_same old.stale.items gate false true (omega (arith, c.requires.gate, c.requires.kept.room.stale)))
    (subst (λ (l : LineId). All (λ (pin : LineId). pin.0 ≢ l.0) (pins_at net gate)) (sym c.line_of.ensures.line) c.requires.others)

pub returns-clause-stay : goal.returns-clause-stay
returns-clause-stay g c = λ other not reads.
    let net = c.args.net.now in let old = c.args.self.now in let gate = c.args.gate.0 in
    c.put.ensures.fresh other
    (⊎_elim (λ (same : other ≡ gate). ap (λ n. get_or (set old.stale.items gate false) n true) same
    ∙ get_or-set_same old.stale.items gate false true (omega (arith, c.requires.gate, c.requires.kept.room.stale)))
    (λ (away : other ≢ gate). get_or-set_other old.stale.items gate other false true away ∙ not)
    (cases_eq other gate))
    (subst (λ (l : LineId). All (λ (pin : LineId). pin.0 ≢ l.0) (pins_at net other)) (sym c.line_of.ensures.line) reads)

pub returns-clause-sources : goal.returns-clause-sources
returns-clause-sources g c = λ source within.
    let line : c.line_of.result.0 ≡ gate_line c.args.net.now c.args.gate.0 = ap (λ (l : LineId). l.0) c.line_of.ensures.line in
    c.put.ensures.written.elsewhere source (λ same. omega (arith, same, line, within))
