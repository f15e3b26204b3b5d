use Rattle.std.proofs.Common.{◌≡◌, ℕ, ◌<◌, pos, ◌-ℤ◌, slice_get, Some}
use Rattle.pd_base.specs.declared.ids.LineId.{LineId}
use Rattle.delay_annotation.specs.Annotation.{delays_of}
use Rattle.delay_replay.specs.LineWaves.{kept_wave}
use Rattle.delay_replay.specs.Settling.{IsOwnOrSettled}
use Rattle.delay_replay.proofs.settling.sides_settled.Given as goal

-- each pin before this one is the step's own, or has settled
abbrev pub invariant-loop-pin : goal.invariant-loop-pin
invariant-loop-pin l =
    (pin : ℕ) (line : LineId) → pin < l.pin → slice_get l.line-items pin ≡ Some line
    → IsOwnOrSettled (delays_of l.net l.delays) (kept_wave l.waves line.0) (l.time -ℤ pos l.behind) l.step pin
