use Rattle.std.proofs.Common.{ℕ}
use Rattle.hulls.specs.Changes.{Lessens, HasPinsKept}
use Rattle.hulls.proofs.cutting.cut_pins.Given as goal

-- the pins so far are cut, and the answer so far tells whether that changed a set
abbrev pub invariant-loop-pin : goal.invariant-loop-pin
invariant-loop-pin l = ((count : ℕ) → HasPinsKept count l.pins l.kept l.pin l.initial.labels l.labels)
    × Lessens l.initial.labels l.labels l.changed
