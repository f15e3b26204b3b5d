-- The lines of the gates inside of the pins so far are reached.
use Rattle.std.proofs.Common.{take}
use Rattle.implication.proofs.Spreading.{HasPinsReached}
use Rattle.implication.proofs.reaching.reach_readers.Given as goal

abbrev pub invariant-loop-pin : goal.invariant-loop-pin
invariant-loop-pin g l = HasPinsReached l.net l.board.inside (take l.pin-index l.pin-items) l.initial.reached l.reached
