-- The gate's line has the value that the gate makes, whether that changes the line or not.
use Rattle.std.proofs.Common.{ℕ, List, false, map, set, sym, ap, ap₂, subst, ◌∙◌}
use Rattle.pd_base.specs.declared.ids.GateId.{GateId}
use Rattle.pd_base.specs.declared.ids.LineId.{LineId}
use Rattle.netlist.specs.Circuit.{gate_line}
use Rattle.netlist.specs.Values.{gate_value}
use Rattle.logic_values.specs.Known.{bit_at}
use Rattle.cones.specs.Ranks.{ranked_gate}
use Rattle.pair_judging.specs.LineValues.{value_made, AreLineValues, MakesReadersStale}
use Rattle.pair_judging.proofs.StaleGates.{equal_bits, gate_changed, gate_unchanged}
use Rattle.pair_judging.proofs.line_values.evaluate_at.Goals as goal

pub returns-then-values-at-clause-kept : goal.returns-then-values-at-clause-kept
returns-then-values-at-clause-kept c =
    let net = c.args.net.now in
    let gates = c.args.gates.now in
    let values = c.args.values.now in
    let value = c.gate_value-value.result in
    let new = c.make_readers_stale.new.stale in
    let read = λ (lines : List LineId). map (λ (pin : LineId). bit_at values pin.0) lines in
    let own = λ (order : List GateId). (ranked_gate order c.args.place).0 in
    let made = c.gate_value-value.ensures ∙ ap₂ gate_value c.kind.ensures (ap read c.pins.ensures.pins)
    ∙ ap (λ (order : List GateId). value_made net values (own order)) c.order.ensures in
    let line = ap (λ (l : LineId). l.0) c.line_of-line.ensures.line ∙ ap (λ (order : List GateId). gate_line net (own order)) c.order.ensures in
    subst (λ (n : ℕ). AreLineValues net (record { values = set values n value; gates = gates; stale = new })) (sym line)
    (gate_changed net gates values c.args.stale.now c.requires.kept c.args.place c.requires.place value made new
    (subst (λ (n : ℕ). MakesReadersStale net gates.places n (set c.args.stale.now c.args.place false) new) line c.make_readers_stale.ensures))

pub returns-else-values-at-clause-kept : goal.returns-else-values-at-clause-kept
returns-else-values-at-clause-kept c =
    let net = c.args.net.now in
    let gates = c.args.gates.now in
    let values = c.args.values.now in
    let value = c.gate_value-value.result in
    let read = λ (lines : List LineId). map (λ (pin : LineId). bit_at values pin.0) lines in
    let own = λ (order : List GateId). (ranked_gate order c.args.place).0 in
    let made = c.gate_value-value.ensures ∙ ap₂ gate_value c.kind.ensures (ap read c.pins.ensures.pins)
    ∙ ap (λ (order : List GateId). value_made net values (own order)) c.order.ensures in
    let line = ap (λ (l : LineId). l.0) c.line_of-line.ensures.line ∙ ap (λ (order : List GateId). gate_line net (own order)) c.order.ensures in
    gate_unchanged net gates values c.args.stale.now c.requires.kept c.args.place c.requires.place value made
    (ap (bit_at values) (sym line) ∙ equal_bits (bit_at values c.line_of-line.result.0) value c.if-values-at.false)
