-- Each turn of the loop gives one gate more its steadiness, and after the last turn all lines have theirs. What follows of
-- their values and waves are the laws of steadiness.
use Rattle.std.proofs.Common.{◌≡◌, ℕ, ◌<◌, Bool, List, length, map, Some, sym, ap, ap₂, ◌∙◌, arith}
use Rattle.pd_base.specs.declared.ids.LineId.{LineId}
use Rattle.netlist.specs.Circuit.{kind_at}
use Rattle.netlist.specs.Steadiness.{agreed_bit, known_gate_value}
use Rattle.path_laws.proofs.Steadiness.{steady_wave_of, steady_first, steady_second}
use Rattle.logic_values.specs.Known.{known, known_at}
use Rattle.logic_values.specs.declared.steadiness.Steady.TheVariants.{Zero}
use Rattle.logic_values.proofs.RankPass.{all_read, begun, one_set}
use Rattle.logic_values.proofs.kleene.steady.Goals as goal

pub loop-gate-init : goal.loop-gate-init
loop-gate-init c =
    let net = c.args.net.now in
    begun net (agreed_bit c.args.pair.now) (λ gate values. known_gate_value (kind_at net gate) values)
    (known_at c.set_sources.new.out) (λ source inside. c.set_sources.ensures source (omega arith))

pub loop-gate-preserved : goal.loop-gate-preserved
loop-gate-preserved c =
    let net = c.args.net.now in
    let order = c.order-gate-items in
    let out = c.loop-gate.out in
    let told = λ (lines : List LineId). map (λ pin. known_at out pin.0) lines in
    one_set net (agreed_bit c.args.pair.now) (λ gate values. known_gate_value (kind_at net gate) values)
    c.lines.ensures.circuit order.result.now order.ensures.rank order.ensures.reads
    c.loop-gate.gate-index c.loop-gate-test.true known Zero out _ c.gate_steadiness.result
    (ap (λ (l : LineId). l.0) c.line_of-line.ensures.line) (omega arith)
    (c.gate_steadiness.ensures ∙ ap₂ known_gate_value c.kind.ensures (ap told c.pins.ensures.pins))
    c.loop-gate.invariant

pub returns : goal.returns
returns c =
    let net = c.args.net.now in
    let pair = c.args.pair.now in
    let out = c.loop-gate.out in
    let order = c.order-gate-items in
    let exactly = λ (line : ℕ) (within : line < length out).
    all_read net (agreed_bit pair) (λ gate values. known_gate_value (kind_at net gate) values)
    order.result.now order.ensures.rank c.loop-gate.gate-index c.loop-gate-test.false (known_at out)
    c.loop-gate.invariant line (omega arith) in
    let steady = λ (line : ℕ) (bit : Bool) (within : line < length out) (known : known_at out line ≡ Some bit).
    sym (exactly line within) ∙ known in
    record {
      exactly = exactly;
      steady_at_all_times = λ line bit within known delays time.
          steady_wave_of net pair delays line bit (steady line bit within known) time;
      steady_under_first = λ line bit within known. steady_first net pair line bit (steady line bit within known);
      steady_under_second = λ line bit within known. steady_second net pair line bit (steady line bit within known);
    }
