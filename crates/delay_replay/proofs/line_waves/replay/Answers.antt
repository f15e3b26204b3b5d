-- What is known of waves of one delay beside what every replay gives.
use Rattle.std.proofs.lemmas.Result.{IfOk-weaker}
use Rattle.delay_annotation.specs.Annotation.{delays_of}
use Rattle.delay_replay.proofs.EndValues.{latest_small, small_delay}
use Rattle.delay_replay.proofs.PrefixLengths.{latest_is_greatest}
use Rattle.delay_replay.proofs.Replaying.{delays_bounded, line_goes}
use Rattle.delay_replay.proofs.line_waves.replay.Goals as goal

pub replay_with-requires-clause-bounded : goal.replay_with-requires-clause-bounded
replay_with-requires-clause-bounded c =
    delays_bounded c.args.delays.now c.args.net.now c.sources.ensures.circuit c.requires.fits c.args.pair.now

pub returns-clause-values : goal.returns-clause-values
returns-clause-values c =
    IfOk-weaker c.replay_with.result _ _
    (λ waves are line within. line_goes c.args.net.now c.args.pair.now (delays_of c.args.net.now c.args.delays.now) c.sources.ensures.circuit line within _
    (are.each line within))
    c.replay_with.ensures.waves

pub returns-clause-latest : goal.returns-clause-latest
returns-clause-latest c =
    IfOk-weaker c.replay_with.result _ _
    (λ waves are. latest_small c.args.net.now c.sources.ensures.circuit (delays_of c.args.net.now c.args.delays.now)
    (small_delay c.args.net.now c.args.delays.now c.requires.fits))
    c.replay_with.ensures.waves

pub returns-clause-greatest : goal.returns-clause-greatest
returns-clause-greatest c =
    IfOk-weaker c.replay_with.result _ _
    (λ waves are. latest_is_greatest (delays_of c.args.net.now c.args.delays.now) c.args.net.now c.sources.ensures.circuit)
    c.replay_with.ensures.waves
