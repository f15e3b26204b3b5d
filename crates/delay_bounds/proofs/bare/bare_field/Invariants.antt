use Rattle.std.proofs.Common.{◌≤◌, ◌-◌, take, length}
use Rattle.delay_bounds.specs.Inside.Bare.{AreAbove, comma}
use Rattle.delay_bounds.proofs.bare.bare_field.Given as goal

-- the bytes so far are above the comma
abbrev pub invariant-loop-end : goal.invariant-loop-end
invariant-loop-end l = (l.end ≤ length l.text) × AreAbove comma (take l.end l.text)

abbrev pub decreases-loop-end : goal.decreases-loop-end
decreases-loop-end l = length l.text - l.end
