-- After all changes all have come.
use Rattle.std.proofs.Common.{◌≡◌, not, ap, sym, ◌∙◌, length, arith}
use Rattle.std.specs.Bool.{beq}
use Rattle.delay_replay.specs.Changes.{Changes}
use Rattle.delay_replay.proofs.Turning.{is_odd, at_latest}
use Rattle.delay_replay.proofs.wave.Wave.latest.Goals as goal

pub returns : goal.returns
returns c =
    let count : length c.self.inside.times.items ≡ c.len.result = omega (arith, c.self.inside.times.ok.0) in
    λ time earlier. at_latest c.args.self.now time earlier
    ∙ ap (λ (w : Changes). not (beq w.before (is_odd (length w.times)))) (sym c.self.view_is)
    ∙ ap (λ n. not (beq c.self.inside.before (is_odd n))) count
