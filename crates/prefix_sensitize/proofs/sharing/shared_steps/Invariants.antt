use Rattle.std.proofs.Common.{◌≡◌, take}
use Rattle.prefix_sensitize.proofs.sharing.shared_steps.Given as goal

-- the pins before this place are the same
abbrev pub invariant-loop-at : goal.invariant-loop-at
invariant-loop-at l = take l.at l.first ≡ take l.at l.second
