-- What is merged is the gate's wave, and so is that of its rise delays where each pin has one delay.
use Rattle.std.proofs.Common.{◌≡◌, ℕ, ℤ, List, length, sym, subst, ap, ◌∙◌}
use Rattle.std.proofs.lemmas.Result.{IfOk-weaker, IfErr-weaker}
use Rattle.netlist.specs.declared.kind.GateKind.{GateKind}
use Rattle.netlist.specs.Lawful.{IsFanIn}
use Rattle.netlist.specs.Circuit.{kind_at, pins_at}
use Rattle.delay_replay.specs.declared.gate.TheConstants.{MOST_CHANGES}
use Rattle.delay_replay.specs.GateWaves.{delayed_gate_wave}
use Rattle.delay_replay.specs.PinCopies.{merged_wave}
use Rattle.delay_replay.proofs.ChangeTimes.{over_same, shows_same}
use Rattle.delay_replay.proofs.LaterCopies.{few_by_fan_in, refuses_same}
use Rattle.delay_annotation.specs.RiseFall.{rise_fall_of}
use Rattle.rise_fall.specs.GateWaves.{rise_fall_gate_wave}
use Rattle.rise_fall.proofs.SeenWaves.{merged_is_seen, one_delay_gate}
use Rattle.rise_fall.proofs.gate.gate_wave.Goals as goal

pub have_one_delay-requires-clause-few_pins : goal.have_one_delay-requires-clause-few_pins
have_one_delay-requires-clause-few_pins c =
    few_by_fan_in (kind_at c.args.net.now c.args.gate.0) _ (c.lines-lines.ensures.circuit.fan_in c.args.gate.0 c.requires.gate)

pub kept_copies-requires-clause-few_pins : goal.kept_copies-requires-clause-few_pins
kept_copies-requires-clause-few_pins c =
    few_by_fan_in (kind_at c.args.net.now c.args.gate.0) _ (c.lines-lines.ensures.circuit.fan_in c.args.gate.0 c.requires.gate)

pub merge-requires-clause-fan_in : goal.merge-requires-clause-fan_in
merge-requires-clause-fan_in c =
    let net = c.args.net.now in
    let gate = c.args.gate.0 in
    subst (λ n. IsFanIn c.kind.result n) (sym c.in_ok-copies.ensures.one_each)
    (subst (λ (kind : GateKind). IsFanIn kind (length (pins_at net gate))) (sym c.kind.ensures) (c.lines-lines.ensures.circuit.fan_in gate c.requires.gate))

-- the wave that is merged and the gate's, at each time
same : (c : goal.After-drop-copies) (time : ℤ)
    → merged_wave c.kind.result c.in_ok-copies.copies.waves.items time
    ≡ rise_fall_gate_wave c.args.net.now c.args.delays.now c.args.gate.0 c.args.waves.now time
same c time =
    ap (λ (kind : GateKind). merged_wave kind c.in_ok-copies.copies.waves.items time) c.kind.ensures
    ∙ merged_is_seen (rise_fall_of c.args.net.now c.args.delays.now) c.args.net.now c.args.gate.0 c.args.waves.now
    c.in_ok-copies.copies.waves.items c.in_ok-copies.ensures time

pub returns-clause-wave : goal.returns-clause-wave
returns-clause-wave c =
    IfOk-weaker c.merge.result _ _ (λ wave are. shows_same _ _ wave (same c) are) c.merge.ensures.wave

pub returns-clause-not_over : goal.returns-clause-not_over
returns-clause-not_over c =
    IfOk-weaker c.merge.result _ _ (λ wave few over. few (over_same _ _ MOST_CHANGES (λ time. sym (same c time)) over)) c.merge.ensures.not_over

pub returns-clause-refused : goal.returns-clause-refused
returns-clause-refused c =
    IfErr-weaker c.merge.result _ _ (λ fault refuses. refuses_same _ _ (same c) fault refuses) c.merge.ensures.refused

-- the wave of one delay and the gate's, at each time
moved : (c : goal.After-gate_wave) (time : ℤ)
    → delayed_gate_wave c.args.net.now c.rises.result.now c.args.gate.0 c.args.waves.now time
    ≡ rise_fall_gate_wave c.args.net.now c.args.delays.now c.args.gate.0 c.args.waves.now time
moved c time =
    ap (λ (rises : List ℕ). delayed_gate_wave c.args.net.now rises c.args.gate.0 c.args.waves.now time) c.rises.ensures
    ∙ one_delay_gate c.args.net.now c.args.delays.now c.args.gate.0 c.args.waves.now (c.have_one_delay.ensures.0 c.if-have_one_delay.true) time

pub returns-then-have_one_delay-clause-wave : goal.returns-then-have_one_delay-clause-wave
returns-then-have_one_delay-clause-wave c =
    IfOk-weaker c.gate_wave.result _ _ (λ wave are. shows_same _ _ wave (moved c) are) c.gate_wave.ensures.wave

pub returns-then-have_one_delay-clause-not_over : goal.returns-then-have_one_delay-clause-not_over
returns-then-have_one_delay-clause-not_over c =
    IfOk-weaker c.gate_wave.result _ _ (λ wave few over. few (over_same _ _ MOST_CHANGES (λ time. sym (moved c time)) over)) c.gate_wave.ensures.not_over

pub returns-then-have_one_delay-clause-refused : goal.returns-then-have_one_delay-clause-refused
returns-then-have_one_delay-clause-refused c =
    IfErr-weaker c.gate_wave.result _ _ (λ fault refuses. refuses_same _ _ (moved c) fault refuses) c.gate_wave.ensures.refused
