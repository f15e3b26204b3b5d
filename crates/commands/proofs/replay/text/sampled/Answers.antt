-- The samples are those of the waves.
use Rattle.std.proofs.Common.{List, sym, ap, subst, ◌∙◌, w64}
use Rattle.std.proofs.lemmas.Int.{to_z-of_z}
use Rattle.netlist.specs.Waves.{wave_of}
use Rattle.delay_annotation.specs.Annotation.{delays_of}
use Rattle.delay_replay.specs.Changes.{Changes}
use Rattle.delay_replay.specs.LineWaves.{AreWavesOf}
use Rattle.delay_replay.specs.Settling.{observed_at}
use Rattle.commands.proofs.replay.text.sampled.Goals as goal

pub returns-clause-samples : goal.returns-clause-samples
returns-clause-samples c =
    let net = c.args.net.now in
    let pair = c.args.pair.now in
    let delays = delays_of c.args.net.now c.args.delays.now in
    c.in_ok-samples_at.ensures (wave_of net pair delays)
    (subst (λ (waves : List Changes). AreWavesOf net pair delays waves) (sym c.as_slice.ensures.value) c.in_ok-waves.ensures.waves)
    ∙ ap (observed_at net pair delays) (to_z-of_z w64 c.args.time c.ranges.time)
