-- What is merged is the gate's wave.
use Rattle.std.proofs.Common.{◌≡◌, ℤ, List, length, sym, subst, ap, ◌∙◌, arith}
use Rattle.std.proofs.lemmas.Result.{IfOk-weaker, IfErr-weaker}
use Rattle.pd_base.specs.declared.ids.LineId.{LineId}
use Rattle.netlist.specs.declared.kind.GateKind.{GateKind}
use Rattle.netlist.specs.Lawful.{IsFanIn}
use Rattle.netlist.specs.Circuit.{kind_at, pins_at}
use Rattle.delay_replay.specs.declared.gate.TheConstants.{MOST_CHANGES}
use Rattle.delay_replay.specs.GateWaves.{delayed_gate_wave}
use Rattle.delay_replay.specs.PinCopies.{copies_of_lines, merged_wave}
use Rattle.delay_replay.proofs.ChangeTimes.{over_same, shows_same}
use Rattle.delay_replay.proofs.LaterCopies.{few_by_fan_in, length-copies, merged_is_delayed, refuses_same}
use Rattle.delay_replay.proofs.gate.gate_wave.Goals as goal

pub merge-requires-clause-fan_in : goal.merge-requires-clause-fan_in
merge-requires-clause-fan_in c =
    let net = c.args.net.now in
    let gate = c.args.gate.0 in
    let lines = c.pins.result.now in
    let read = ap (λ (all : List LineId). length all) c.pins.ensures.pins in
    let one_each : length c.of_gate.result.now ≡ length lines = c.of_gate.ensures.one_each ∙ sym read in
    let many : length (pins_at net gate) ≡ length (copies_of_lines c.of_gate.result.now lines c.args.waves.now) =
    sym (length-copies c.of_gate.result.now lines c.args.waves.now one_each ∙ read) in
    subst (λ n. IsFanIn c.kind.result n) many
    (subst (λ (kind : GateKind). IsFanIn kind (length (pins_at net gate))) (sym c.kind.ensures) (c.lines-lines.ensures.circuit.fan_in gate c.requires.gate))

pub merge-requires-clause-can : goal.merge-requires-clause-can
merge-requires-clause-can c =
    let read = ap (λ (all : List LineId). length all) c.pins.ensures.pins in
    let few = few_by_fan_in (kind_at c.args.net.now c.args.gate.0) _ (c.lines-lines.ensures.circuit.fan_in c.args.gate.0 c.requires.gate) in record {
      one_each = c.of_gate.ensures.one_each ∙ sym read;
      few = omega (arith, read, few);
      have_waves = λ k d within. omega (arith, c.pins.ensures.in_circuit k d within, c.requires.one_each);
      bounded = c.requires.bounded;
    }

-- the wave that is merged and the gate's, at each time
same : (c : goal.After-merge) (time : ℤ)
    → merged_wave c.kind.result (copies_of_lines c.of_gate.result.now c.pins.result.now c.args.waves.now) time
    ≡ delayed_gate_wave c.args.net.now c.args.delays.now c.args.gate.0 c.args.waves.now time
same c time =
    ap (λ (kind : GateKind). merged_wave kind (copies_of_lines c.of_gate.result.now c.pins.result.now c.args.waves.now) time) c.kind.ensures
    ∙ ap (λ (lines : List LineId). merged_wave (kind_at c.args.net.now c.args.gate.0) (copies_of_lines c.of_gate.result.now lines c.args.waves.now) time) c.pins.ensures.pins
    ∙ merged_is_delayed c.args.net.now c.args.delays.now c.args.gate.0 c.of_gate.result.now c.args.waves.now c.of_gate.ensures time

pub returns-clause-wave : goal.returns-clause-wave
returns-clause-wave c =
    IfOk-weaker c.merge.result _ _ (λ wave are. shows_same _ _ wave (same c) are) c.merge.ensures.wave

pub returns-clause-not_over : goal.returns-clause-not_over
returns-clause-not_over c =
    IfOk-weaker c.merge.result _ _ (λ wave few over. few (over_same _ _ MOST_CHANGES (λ time. sym (same c time)) over)) c.merge.ensures.not_over

pub returns-clause-refused : goal.returns-clause-refused
returns-clause-refused c =
    IfErr-weaker c.merge.result _ _ (λ fault refuses. refuses_same _ _ (same c) fault refuses) c.merge.ensures.refused
