-- Each turn of the loop gives one gate more its steadiness, and after the last turn it is known of all lines: lane by lane, as in the pass
-- under one pair. A line that is steady is so at its final value.
use Rattle.std.proofs.Common.{◌≡◌, ℕ, Bool, Option, List, map, get_or, set, get_or-set_same, get_or-set_other, is_some, sym, ap, ap₂, subst, ◌∙◌, arith}
use Rattle.pd_base.specs.declared.ids.LineId.{LineId}
use Rattle.netlist.specs.Circuit.{HasLines, gate_line, kind_at, pins_at}
use Rattle.netlist.specs.Steadiness.{agreed_bit, is_steady, known_gate_value}
use Rattle.netlist.specs.Values.{bit_of, gate_value, value}
use Rattle.netlist.proofs.Evaluation.{map_agree, value_at_source}
use Rattle.logic_values.specs.Lanes.{lane_of, lane_bit}
use Rattle.logic_values.proofs.RankPass.{all_read, begun, one_more, own_value}
use Rattle.test_grade.specs.Lines.{known_in, known_lane}
use Rattle.test_grade.proofs.KnownLanes.{agreed_known, is_some-known_in, steady_known}
use Rattle.test_grade.proofs.steady_lanes.steady_lanes.Goals as goal

pub loop-gate-init : goal.loop-gate-init
loop-gate-init c lane pair within values agree =
    let net = c.args.net.now in
    begun net (agreed_bit pair) (λ gate values. known_gate_value (kind_at net gate) values)
    (λ line. known_in (value net pair.second line) (lane_bit c.args.steadies.now lane line))
    (λ source inside.
    ap₂ known_in (value_at_source net (bit_of pair.second) (λ gate values. gate_value (kind_at net gate) values) source inside) (agree.each source inside)
    ∙ agreed_known (bit_of pair.first source) (bit_of pair.second source))

pub loop-gate-preserved : goal.loop-gate-preserved
loop-gate-preserved c lane pair within values agree =
    let net = c.args.net.now in
    let order = c.order-gate-items in
    let place = c.loop-gate.gate-index in
    let gate = get_or order.result.now place (record { 0 = 0 }) in
    let step = λ (gate : ℕ) (values : List (Option Bool)). known_gate_value (kind_at net gate) values in
    let words = c.loop-gate.steadies in
    let final = value net pair.second in
    let read = λ (line : ℕ). known_in (final line) (lane_bit words lane line) in
    let told = λ (pin : LineId). known_lane c.args.finals.now words lane pin.0 in
    let turn = c.loop-gate.invariant lane pair within values agree in
    let own = own_value net (agreed_bit pair) step c.lines.ensures.circuit order.result.now order.ensures.rank order.ensures.reads
    place c.loop-gate-test.true read turn in
    let lines : HasLines net (pins_at net gate.0) = subst (HasLines net) c.pins.ensures.pins c.pins.ensures.in_circuit in
    let computed = map_agree told (λ (pin : LineId). read pin.0) (pins_at net gate.0)
    (λ k d inside. ap (λ v. known_in v (lane_bit words lane (get_or (pins_at net gate.0) k d).0)) (values.each _ (lines k d inside))) in
    let found : lane_of c.steady_word.result lane ≡ is_steady net pair (gate_line net gate.0) =
    c.steady_word.ensures lane within
    ∙ ap is_some (ap₂ known_gate_value c.kind.ensures (ap (map told) c.pins.ensures.pins) ∙ ap (step gate.0) computed ∙ own) in
    let line = c.line_of-line.result.0 in
    let word = c.steady_word.result in
    let same : line ≡ gate_line net gate.0 = ap (λ (l : LineId). l.0) c.line_of-line.ensures.line in
    let new = λ (other : ℕ). known_in (final other) (lane_of (get_or (set words line word) other 0) lane) in
    let there : get_or (set words line word) (gate_line net gate.0) 0 ≡ word =
    ap (λ at. get_or (set words line word) at 0) (sym same) ∙ get_or-set_same words line word 0 (omega arith) in
    one_more net (agreed_bit pair) step c.lines.ensures.circuit order.result.now order.ensures.rank order.ensures.reads
    place c.loop-gate-test.true read turn new
    (ap (known_in (final (gate_line net gate.0))) (ap (λ w. lane_of w lane) there ∙ found)
    ∙ steady_known net pair (gate_line net gate.0) ∙ sym own)
    (λ other differs. ap (λ w. known_in (final other) (lane_of w lane)) (get_or-set_other words line other word 0 (λ e. differs (e ∙ same))))

pub returns : goal.returns
returns c lane pair within values agree =
    let net = c.args.net.now in
    let order = c.order-gate-items in
    let words = c.loop-gate.steadies in
    let read = λ (line : ℕ). known_in (value net pair.second line) (lane_bit words lane line) in
    record {
      each = λ line inside.
          sym (is_some-known_in (value net pair.second line) (lane_bit words lane line))
          ∙ ap is_some (all_read net (agreed_bit pair) (λ gate values. known_gate_value (kind_at net gate) values)
          order.result.now order.ensures.rank c.loop-gate.gate-index c.loop-gate-test.false read
          (c.loop-gate.invariant lane pair within values agree) line inside);
    }
