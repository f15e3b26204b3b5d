-- Each turn of the loop gives one gate more its value, and after the last turn all lines have theirs.
use Rattle.std.proofs.Common.{Bool, List, false, map, ap, ap₂, ◌∙◌, arith}
use Rattle.pd_base.specs.declared.ids.LineId.{LineId}
use Rattle.netlist.specs.Circuit.{kind_at}
use Rattle.netlist.specs.Values.{bit_of, gate_value}
use Rattle.logic_values.specs.Known.{bit_at}
use Rattle.logic_values.proofs.RankPass.{all_read, begun, one_set}
use Rattle.logic_values.proofs.boolean.evaluate.Goals as goal

pub loop-gate-init : goal.loop-gate-init
loop-gate-init c =
    let net = c.args.net.now in
    begun net (bit_of c.args.vector.now) (λ gate values. gate_value (kind_at net gate) values) (bit_at c.set_sources.new.out)
    (λ source inside. c.set_sources.ensures source (omega arith))

pub loop-gate-preserved : goal.loop-gate-preserved
loop-gate-preserved c =
    let net = c.args.net.now in
    let order = c.order-gate-items in
    let out = c.loop-gate.out in
    let value = λ (lines : List LineId). map (λ pin. bit_at out pin.0) lines in
    one_set net (bit_of c.args.vector.now) (λ gate values. gate_value (kind_at net gate) values)
    c.lines.ensures.circuit order.result.now order.ensures.rank order.ensures.reads
    c.loop-gate.gate-index c.loop-gate-test.true (λ (bit : Bool). bit) false out _ c.gate_value.result
    (ap (λ (l : LineId). l.0) c.line_of-line.ensures.line) (omega arith)
    (c.gate_value.ensures ∙ ap₂ gate_value c.kind.ensures (ap value c.pins.ensures.pins))
    c.loop-gate.invariant

pub returns : goal.returns
returns c =
    let net = c.args.net.now in
    let order = c.order-gate-items in
    λ line within. all_read net (bit_of c.args.vector.now) (λ gate values. gate_value (kind_at net gate) values)
    order.result.now order.ensures.rank c.loop-gate.gate-index c.loop-gate-test.false (bit_at c.loop-gate.out)
    c.loop-gate.invariant line (omega arith)
