-- One more observed line is sampled.
use Rattle.std.proofs.Common.{length, get_or, ap, subst, ◌∙◌, to_z, of_z, w64, arith}
use Rattle.std.proofs.lemmas.List.{get_or_read}
use Rattle.std.proofs.lemmas.Int.{to_z-of_z}
use Rattle.netlist.specs.Circuit.{HasLines}
use Rattle.delay_replay.specs.Changes.{wave_at}
use Rattle.delay_replay.specs.LineWaves.{no_changes}
use Rattle.delay_replay.specs.Settling.{samples}
use Rattle.delay_replay.proofs.Sampling.{all_sampled, one_sample_more, samples_of_waves}
use Rattle.delay_replay.proofs.settling.sample.Goals as goal

pub loop-place-preserved : goal.loop-place-preserved
loop-place-preserved c =
    let observed = c.observed-line-items in
    let place = c.loop-place.place in
    let time = to_z w64 (of_z w64 c.args.time) in
    let line = get_or observed.result.now place (record { 0 = 0 }) in
    let in_circuit = observed.ensures.in_circuit place (record { 0 = 0 }) c.loop-place-test.true in
    let kept = get_or_read c.args.waves.now line.0 c.index-waves-line.result (omega (arith, in_circuit)) c.index-waves-line.is
    no_changes in
    let same = ap length observed.ensures.observed in
    one_sample_more c.args.net.now c.args.waves.now time c.loop-place.out place observed.result.now c.at.result
    observed.ensures.observed c.loop-place-test.true (omega arith)
    (c.at.ensures ∙ ap (λ wave. wave_at wave time) kept) c.loop-place.invariant

pub returns-clause-samples : goal.returns-clause-samples
returns-clause-samples c =
    let same = ap length c.observed-line-items.ensures.observed in
    all_sampled c.args.net.now c.args.waves.now (to_z w64 (of_z w64 c.args.time)) c.loop-place.out c.loop-place.place
    (omega arith) (omega arith) c.loop-place.invariant
    ∙ ap (samples c.args.net.now c.args.waves.now) (to_z-of_z w64 c.args.time c.ranges.time)

pub returns-clause-of_waves : goal.returns-clause-of_waves
returns-clause-of_waves c = λ wave are.
    let lines = subst (HasLines c.args.net.now) c.observed-line-items.ensures.observed c.observed-line-items.ensures.in_circuit in
    returns-clause-samples c ∙ samples_of_waves c.args.net.now c.args.waves.now c.args.time wave lines are
