-- Each kind of gate is steady as its kind's function is known. What inverts a value keeps whether it is known.
use Rattle.std.proofs.Common.{⊎_elim, map, not, is_some, ap, sym, ◌∙◌}
use Rattle.pd_base.specs.declared.ids.LineId.{LineId}
use Rattle.netlist.specs.declared.kind.GateKind.{GateKind}
use Rattle.netlist.specs.Steadiness.{known_all, known_any, known_parity, known_gate_value, only_known}
use Rattle.logic_values.specs.Lanes.{lane_bit}
use Rattle.test_grade.specs.Lines.{known_lane}
use Rattle.test_grade.proofs.KnownLanes.{is_some-map, is_some-only, known_and, known_or, known_xor}
use Rattle.test_grade.proofs.steady_lanes.steady_word.Goals as goal

pub returns-in-And : goal.returns-in-And
returns-in-And c lane within =
    let pins = c.args.pins.now in
    let told = λ (pin : LineId). known_lane c.args.finals.now c.args.steadies.now lane pin.0 in
    let kept = λ (kind : GateKind). is_some (known_gate_value kind (map told pins)) in
    let same = c.controlled.ensures lane within ∙ sym (known_and told pins) in
    ⊎_elim
    (λ is. same ∙ ap kept (sym is))
    (λ is. same ∙ sym (is_some-map not (known_all (map told pins))) ∙ ap kept (sym is))
    c.in-And.is

pub returns-in-Or : goal.returns-in-Or
returns-in-Or c lane within =
    let pins = c.args.pins.now in
    let told = λ (pin : LineId). known_lane c.args.finals.now c.args.steadies.now lane pin.0 in
    let kept = λ (kind : GateKind). is_some (known_gate_value kind (map told pins)) in
    let same = c.controlled-in-Or.ensures lane within ∙ sym (known_or told pins) in
    ⊎_elim
    (λ is. same ∙ ap kept (sym is))
    (λ is. same ∙ sym (is_some-map not (known_any (map told pins))) ∙ ap kept (sym is))
    c.in-Or.is

pub returns-in-Xor : goal.returns-in-Xor
returns-in-Xor c lane within =
    let pins = c.args.pins.now in
    let last = λ (pin : LineId). lane_bit c.args.finals.now lane pin.0 in
    let steady = λ (pin : LineId). lane_bit c.args.steadies.now lane pin.0 in
    let told = λ (pin : LineId). known_lane c.args.finals.now c.args.steadies.now lane pin.0 in
    let kept = λ (kind : GateKind). is_some (known_gate_value kind (map told pins)) in
    let same = c.all_steady.ensures lane within ∙ sym (known_xor last steady pins) in
    ⊎_elim
    (λ is. same ∙ ap kept (sym is))
    (λ is. same ∙ sym (is_some-map not (known_parity (map told pins))) ∙ ap kept (sym is))
    c.in-Xor.is

pub returns-in-Not : goal.returns-in-Not
returns-in-Not c lane within =
    let pins = c.args.pins.now in
    let last = λ (pin : LineId). lane_bit c.args.finals.now lane pin.0 in
    let steady = λ (pin : LineId). lane_bit c.args.steadies.now lane pin.0 in
    let told = λ (pin : LineId). known_lane c.args.finals.now c.args.steadies.now lane pin.0 in
    let kept = λ (kind : GateKind). is_some (known_gate_value kind (map told pins)) in
    let same = c.only_steady.ensures lane within ∙ sym (is_some-only last steady pins) in
    ⊎_elim
    (λ is. same ∙ sym (is_some-map not (only_known (map told pins))) ∙ ap kept (sym is))
    (λ is. same ∙ ap kept (sym is))
    c.in-Not.is
