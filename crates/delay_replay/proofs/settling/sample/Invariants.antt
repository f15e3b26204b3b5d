use Rattle.std.proofs.Common.{◌≡◌, take}
use Rattle.delay_replay.specs.Settling.{samples}
use Rattle.delay_replay.proofs.settling.sample.Given as goal

-- the observed lines before this one are sampled
abbrev pub invariant-loop-place : goal.invariant-loop-place
invariant-loop-place l = take l.place l.out ≡ take l.place (samples l.net l.waves l.time)
