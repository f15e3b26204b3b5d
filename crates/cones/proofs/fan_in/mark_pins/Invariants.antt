use Rattle.std.proofs.Common.{take}
use Rattle.cones.specs.Marks.{AddsMarks}
use Rattle.cones.proofs.fan_in.mark_pins.Given as goal

-- the lines of the pins before this one are added
abbrev pub invariant-loop-pin : goal.invariant-loop-pin
invariant-loop-pin l = AddsMarks l.fn.cone (take l.pin-index l.pins) l.cone
