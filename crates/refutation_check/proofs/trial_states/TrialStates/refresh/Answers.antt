-- One gate more is not stale, and none before it becomes so.
use Rattle.std.proofs.Common.{◌≡◌, ◌≢◌, ◌<◌, false, get_or, get_or-take, take, length, sym, subst, ◌∙◌, arith}
use Rattle.std.specs.List.{All}
use Rattle.std.proofs.lemmas.List.{get_or_default, length-take-le}
use Rattle.std.proofs.lemmas.List.Elements.{All-more, Contains-get_or}
use Rattle.pd_base.specs.declared.ids.GateId.{GateId}
use Rattle.pd_base.specs.declared.ids.LineId.{LineId}
use Rattle.netlist.specs.Circuit.{gate_line, pins_at}
use Rattle.refutation_check.specs.TrialStates.{is_stale}
use Rattle.refutation_check.proofs.TrialStates.{no_gate, reads_no_later}
use Rattle.refutation_check.proofs.trial_states.TrialStates.refresh.Goals as goal

pub refresh_gate-requires-clause-gate : goal.refresh_gate-requires-clause-gate
refresh_gate-requires-clause-gate g c =
    let gates = c.args.gates.now in let place = c.loop-place.place in
    let inside : place < length gates = omega (arith, c.loop-place-test.true, c.requires.count) in
    ((c.requires.gates.2.exactly (get_or gates place no_gate).0).0 (Contains-get_or gates place no_gate inside)).0

pub refresh_gate-requires-clause-others : goal.refresh_gate-requires-clause-others
refresh_gate-requires-clause-others g c =
    let gates = c.args.gates.now in let place = c.loop-place.place in
    let inside : place < length gates = omega (arith, c.loop-place-test.true, c.requires.count) in
    reads_no_later c.args.net.now c.lines.ensures.circuit c.requires.gates.0 c.requires.gates.1 gates c.requires.gates.2 place place (omega arith) inside

pub loop-place-preserved : goal.loop-place-preserved
loop-place-preserved g c =
    let net = c.args.net.now in let gates = c.args.gates.now in let place = c.loop-place.place in
    let inside : place < length gates = omega (arith, c.loop-place-test.true, c.requires.count) in
    let inv = c.loop-place.invariant in let new = c.refresh_gate.new.self in
    let line = gate_line net (get_or gates place no_gate).0 in
    record {
      kept = c.refresh_gate.ensures.kept;
      fresh = All-more (λ (gate : GateId). is_stale new gate.0 ≡ false) gates place no_gate inside
          (λ k d front.
          let short : k < place = omega (arith, front, length-take-le place gates (omega (arith, inside))) in
          let same : get_or (take place gates) k d ≡ get_or gates k no_gate =
          get_or-take place gates k d short ∙ get_or_default gates k d no_gate (omega (arith, short, inside)) in
          c.refresh_gate.ensures.stay (get_or (take place gates) k d).0 (inv.fresh k d front)
          (subst (λ (gate : GateId). All (λ (pin : LineId). pin.0 ≢ line) (pins_at net gate.0)) (sym same)
          (reads_no_later net c.lines.ensures.circuit c.requires.gates.0 c.requires.gates.1 gates c.requires.gates.2 k place (omega (arith, short)) inside)))
          c.refresh_gate.ensures.fresh;
      sources = λ source within. c.refresh_gate.ensures.sources source within ∙ inv.sources source within;
    }

pub returns-clause-fresh : goal.returns-clause-fresh
returns-clause-fresh g c =
    let inv = c.loop-place.invariant in
    let done : c.loop-place.place ≡ c.args.count = omega arith in
    subst (λ n. All (λ (gate : GateId). is_stale c.loop-place.self gate.0 ≡ false) (take n c.args.gates.now)) done inv.fresh
