-- The replay of the sources, of each gate, and what is known behind the last one.
use Rattle.std.proofs.Common.{◌+◌, length, get_or, set, take, sum_by, sym, ap, subst, subst₂, ◌∙◌, arith}
use Rattle.std.proofs.lemmas.Result.{err_from_is_err_and}
use Rattle.pd_base.specs.declared.ids.LineId.{LineId}
use Rattle.netlist.specs.Circuit.{gate_line}
use Rattle.delay_replay.specs.Changes.{Changes, AreChangesOf}
use Rattle.delay_replay.specs.GateWaves.{gate_wave, line_wave}
use Rattle.delay_replay.specs.ReplayTurns.{AddsWaves, RefusesGate}
use Rattle.delay_replay.proofs.Replaying.{IsReplayed, all_few, all_waves, begun, few_source_changes, turn_refused, turned}
use Rattle.delay_replay.proofs.line_waves.replay_with.Goals as goal

pub returns-in_err-waves-clause-refused : goal.returns-in_err-waves-clause-refused
returns-in_err-waves-clause-refused g c =
    let answer = err_from_is_err_and c.from_residual.result c.from_residual.ensures.1 in rw (answer.1, answer.2) tt

pub returns-in_err-add_still_waves-clause-refused :
    goal.returns-in_err-add_still_waves-clause-refused
returns-in_err-add_still_waves-clause-refused g c =
    let left = c.from_residual-in_err-add_still_waves in
    let answer = err_from_is_err_and left.result left.ensures.1 in
    rw (answer.1, answer.2) tt

pub change_total-total-requires : goal.change_total-total-requires
change_total-total-requires g c =
    let few = few_source_changes c.args.net.now c.args.pair.now (g.M.DelayModel.copy c.args.delays.now c.args.net.now) c.sources.ensures.circuit
    c.in_ok-waves.waves.items c.in_ok-waves.ensures in
    let same = ap (sum_by (λ (own : Changes). length own.times)) c.deref.ensures.value in
    let lines = c.sources.ensures.circuit.few_lines in
    omega arith

pub loop-gate-init : goal.loop-gate-init
loop-gate-init g c =
    begun c.args.net.now c.args.pair.now (g.M.DelayModel.copy c.args.delays.now c.args.net.now) c.sources.ensures.circuit
    c.in_ok-waves.waves.items c.in_ok-waves.ensures c.add_still_waves.new.waves.items
    (subst (λ gates. AddsWaves gates c.in_ok-waves.waves.items c.add_still_waves.new.waves.items) c.gates.ensures
    c.in_ok-add_still_waves.ensures)
    c.change_total-total.result
    (c.change_total-total.ensures ∙ ap (sum_by (λ (own : Changes). length own.times)) c.deref.ensures.value)

pub returns-in_err-wave-clause-refused : goal.returns-in_err-wave-clause-refused
returns-in_err-wave-clause-refused g c =
    let net = c.args.net.now in
    let copy = g.M.DelayModel.copy c.args.delays.now c.args.net.now in
    let order = c.order-gate-items in
    let place = c.loop-gate.gate-index in
    let fault = c.in_err-wave.field-0.0 in
    let gate = (get_or order.result.now place (record { 0 = 0 })).0 in
    let answer = err_from_is_err_and c.from_residual-in_err-wave.result c.from_residual-in_err-wave.ensures.1 in
    rw (answer.1, answer.2) (turn_refused net c.args.pair.now copy c.sources.ensures.circuit
    c.requires.bounded order.result.now order.ensures.rank order.ensures.reads
    place c.loop-gate-test.true c.loop-gate.waves.items c.loop-gate.total c.loop-gate.invariant fault
    (subst (λ waves. RefusesGate (gate_wave copy net gate (line_wave waves)) (gate_line net gate) c.loop-gate.total
    fault) c.deref-in-loop-gate.ensures.value c.in_err-wave.ensures.refused))

pub loop-gate-preserved : goal.loop-gate-preserved
loop-gate-preserved g c =
    let net = c.args.net.now in
    let pair = c.args.pair.now in
    let copy = g.M.DelayModel.copy c.args.delays.now c.args.net.now in
    let order = c.order-gate-items in
    let place = c.loop-gate.gate-index in
    let wave = c.in_ok-wave.wave in
    let gate = (get_or order.result.now place (record { 0 = 0 })).0 in
    let more = turned net pair copy c.sources.ensures.circuit
    c.requires.bounded order.result.now order.ensures.rank order.ensures.reads
    place c.loop-gate-test.true c.loop-gate.waves.items c.loop-gate.total c.loop-gate.invariant wave
    (subst (λ waves. AreChangesOf (gate_wave copy net gate (line_wave waves)) wave)
    c.deref-in-loop-gate.ensures.value c.in_ok-wave.ensures.wave)
    c.in_ok-wave.ensures.few c.in_ok-wave.ensures.few_of_all in
    subst₂ (λ line count. IsReplayed net pair copy (take (place + 1) order.result.now)
    (set c.loop-gate.waves.items line wave) (c.loop-gate.total + count))
    (ap (λ (l : LineId). l.0) (sym c.line_of.ensures.line)) (ap length (sym c.changes.ensures.times)) more

pub returns-clause-waves : goal.returns-clause-waves
returns-clause-waves g c =
    let net = c.args.net.now in
    let order = c.order-gate-items in
    all_waves net c.args.pair.now (g.M.DelayModel.copy c.args.delays.now c.args.net.now) c.sources.ensures.circuit
    c.requires.bounded order.result.now order.ensures.rank order.ensures.reads
    c.loop-gate.gate-index c.loop-gate-test.false c.loop-gate.waves.items c.loop-gate.total c.loop-gate.invariant

pub returns-clause-few : goal.returns-clause-few
returns-clause-few g c =
    let net = c.args.net.now in
    let order = c.order-gate-items in
    all_few net c.args.pair.now (g.M.DelayModel.copy c.args.delays.now c.args.net.now) c.sources.ensures.circuit
    c.requires.bounded order.result.now order.ensures.rank order.ensures.reads
    c.loop-gate.gate-index c.loop-gate-test.false c.loop-gate.waves.items c.loop-gate.total c.loop-gate.invariant
