use Rattle.std.proofs.Common.{take}
use Rattle.pair_judging.proofs.StaleGates.{AddsGates}
use Rattle.pair_judging.proofs.line_values.make_readers_stale.Given as goal

-- the gates of the pins before this one are stale
abbrev pub invariant-loop-pin : goal.invariant-loop-pin
invariant-loop-pin l = AddsGates l.gates.places (take l.pin-index l.pin-items) l.initial.stale l.stale
