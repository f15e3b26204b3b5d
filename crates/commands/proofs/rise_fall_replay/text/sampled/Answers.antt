-- The samples are those of the waves.
use Rattle.std.proofs.Common.{◌≡◌, ℤ, List, sym, ap, subst, ◌∙◌, arith, to_z, w64}
use Rattle.std.specs.Prelude.{pos}
use Rattle.std.proofs.lemmas.Int.{ints}
use Rattle.delay_annotation.specs.RiseFall.{rise_fall_of}
use Rattle.delay_replay.specs.Changes.{Changes}
use Rattle.delay_replay.specs.LineWaves.{AreLineWaves}
use Rattle.delay_replay.specs.Settling.{observed_under}
use Rattle.rise_fall.specs.Waves.{rise_fall_wave}
use Rattle.commands.proofs.rise_fall_replay.text.sampled.Goals as goal

pub returns-clause-samples : goal.returns-clause-samples
returns-clause-samples c =
    let at = c.args.at.now in
    let net = at.net.now in
    let pair = c.args.test.now.pair in
    let delays = rise_fall_of net at.delays.now in
    let same : to_z w64 at.time ≡ pos at.time = let small = c.requires.can.small_time in omega (arith, ints) in
    c.in_ok-samples_at.ensures (rise_fall_wave net pair delays)
    (subst (λ (waves : List Changes). AreLineWaves net (rise_fall_wave net pair delays) waves) (sym c.as_slice.ensures.value)
    c.in_ok-waves.ensures.waves)
    ∙ ap (λ (time : ℤ). observed_under net (rise_fall_wave net pair delays) time) same
