-- The waves are bounded, as each replay asks; and each late path is seen on them.
use Rattle.std.proofs.Common.{◌<◌, ℕ, List, sym, ap, ◌∙◌, arith}
use Rattle.std.proofs.lemmas.Result.{IfOk-weaker}
use Rattle.netlist.specs.Paths.{end_of}
use Rattle.netlist.specs.Circuit.{line_count}
use Rattle.rise_fall.proofs.LatePaths.{one_delay_waves, robust_detects_rise_fall}
use Rattle.path_laws.proofs.StepCounts.{line_after_in_circuit}
use Rattle.delay_annotation.specs.Annotation.{delays_of}
use Rattle.rise_fall.specs.Waves.{rise_fall_wave}
use Rattle.delay_annotation.specs.RiseFall.{rise_fall_of}
use Rattle.rise_fall.proofs.EndLaws.{rise_fall_bounded}
use Rattle.rise_fall.proofs.replay.replay_rise_fall.Goals as goal

pub replay_with-requires-clause-bounded : goal.replay_with-requires-clause-bounded
replay_with-requires-clause-bounded c =
    rise_fall_bounded c.args.net.now c.sources.ensures.circuit c.args.delays.now c.requires.fits c.args.pair.now

pub returns-clause-late : goal.returns-clause-late
returns-clause-late c =
    let net = c.args.net.now in
    let pair = c.args.pair.now in
    let delays = rise_fall_of net c.args.delays.now in
    IfOk-weaker c.replay_with.result _ _
    (λ waves are path direction prefix meets time late same.
    let within : end_of net path < line_count net =
    line_after_in_circuit net c.sources.ensures.circuit path.source.0 path.steps (omega (arith, prefix.source)) prefix.connects in
    robust_detects_rise_fall net c.sources.ensures.circuit path direction pair prefix meets delays time late
    (sym ((are.each (end_of net path) within).shows time) ∙ same))
    c.replay_with.ensures.waves

pub returns-clause-one_delay : goal.returns-clause-one_delay
returns-clause-one_delay c =
    let net = c.args.net.now in
    let kept = c.args.delays.now in
    λ same. IfOk-weaker c.replay_with.result _ _
    (λ waves are. record {
      one_each = are.one_each;
      each = λ line within. record {
        rising = (are.each line within).rising;
        shows = λ time. (are.each line within).shows time
            ∙ ap (λ (falls : List ℕ). rise_fall_wave net c.args.pair.now (rise_fall_of net (record { rises = kept.rises; falls = falls })) line time) (sym same)
            ∙ one_delay_waves (delays_of net kept.rises) net c.args.pair.now line time;
      };
    })
    c.replay_with.ensures.waves
