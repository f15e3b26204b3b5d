-- The test of a side pin.
use Rattle.std.proofs.Common.{◌+◌, pos, ◌-ℤ◌, ap, ◌∙◌, w64}
use Rattle.std.proofs.lemmas.Int.{to_z-of_z}
use Rattle.delay_replay.specs.Changes.{wave_at}
use Rattle.delay_annotation.specs.Annotation.{delays_of}
use Rattle.delay_replay.proofs.BackwardSteps.{pin_test}
use Rattle.delay_replay.proofs.settling.pin_settled.Goals as goal

pub returns : goal.returns
returns c =
    let time = to_z-of_z w64 c.args.time c.ranges.time in
    let wave = c.args.wave.now in
    pin_test (delays_of c.args.net.now c.args.delays.now) wave c.args.time c.args.behind c.from.result c.args.step c.args.pin
    c.at_earlier.result c.latest.result c.latest.ensures c.if-pin-step.false (c.from.ensures ∙ c.delay.ensures.delay)
    (c.at_earlier.ensures ∙ ap (λ t. wave_at wave (t -ℤ pos (c.args.behind + c.from.result))) time)
