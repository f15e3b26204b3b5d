use Rattle.std.proofs.Common.{◌≡◌, length}
use Rattle.search_hints.proofs.completing.like_states.Given as goal

abbrev pub invariant-loop-line : goal.invariant-loop-line
invariant-loop-line g l = length l.liked ≡ length l.initial.liked
