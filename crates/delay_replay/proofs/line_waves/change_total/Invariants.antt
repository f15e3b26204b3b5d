use Rattle.std.proofs.Common.{◌≡◌, length, take, sum_by}
use Rattle.delay_replay.proofs.line_waves.change_total.Given as goal

-- the changes of the waves before this one
abbrev pub invariant-loop-wave : goal.invariant-loop-wave
invariant-loop-wave l = l.total ≡ sum_by (λ wave. length wave.times) (take l.wave-index l.waves)
