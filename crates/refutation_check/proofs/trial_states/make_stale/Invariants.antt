use Rattle.refutation_check.proofs.TrialStates.{IsStaleTo}
use Rattle.refutation_check.proofs.trial_states.make_stale.Given as goal

-- the gates of the pins before this one are stale
abbrev pub invariant-loop-pin : goal.invariant-loop-pin
invariant-loop-pin l = IsStaleTo l.pins l.pin-index l.initial.stale l.stale
