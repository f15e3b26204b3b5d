-- Each turn of the loop gives one gate more its values, and after the last turn all lines have theirs: lane by lane, as in the pass
-- under one vector.
use Rattle.std.proofs.Common.{ℕ, List, map, ap, ap₂, ◌∙◌, arith}
use Rattle.pd_base.specs.declared.ids.LineId.{LineId}
use Rattle.netlist.specs.Circuit.{kind_at}
use Rattle.netlist.specs.Values.{bit_of, gate_value}
use Rattle.logic_values.specs.Lanes.{lane_of, lane_bit}
use Rattle.logic_values.proofs.RankPass.{all_read, begun, one_set}
use Rattle.logic_values.proofs.lanes.evaluate_lanes.Goals as goal

pub loop-gate-init : goal.loop-gate-init
loop-gate-init c lane vector within long stands =
    let net = c.args.net.now in
    begun net (bit_of vector) (λ gate values. gate_value (kind_at net gate) values) (lane_bit c.args.words.now lane)
    (λ source inside. stands.each source (omega arith))

pub loop-gate-preserved : goal.loop-gate-preserved
loop-gate-preserved c lane vector within long stands =
    let net = c.args.net.now in
    let order = c.order-gate-items in
    let words = c.loop-gate.words in
    let bits = λ (lines : List LineId). map (λ pin. lane_bit words lane pin.0) lines in
    one_set net (bit_of vector) (λ gate values. gate_value (kind_at net gate) values)
    c.lines.ensures.circuit order.result.now order.ensures.rank order.ensures.reads
    c.loop-gate.gate-index c.loop-gate-test.true (λ (word : ℕ). lane_of word lane) 0 words _ c.gate_word.result
    (ap (λ (l : LineId). l.0) c.line_of-line.ensures.line) (omega arith)
    (c.gate_word.ensures lane within ∙ ap₂ gate_value c.kind.ensures (ap bits c.pins.ensures.pins))
    (c.loop-gate.invariant lane vector within long stands)

pub returns : goal.returns
returns c lane vector within long stands line inside =
    let net = c.args.net.now in
    let order = c.order-gate-items in
    all_read net (bit_of vector) (λ gate values. gate_value (kind_at net gate) values)
    order.result.now order.ensures.rank c.loop-gate.gate-index c.loop-gate-test.false (lane_bit c.loop-gate.words lane)
    (c.loop-gate.invariant lane vector within long stands) line inside
