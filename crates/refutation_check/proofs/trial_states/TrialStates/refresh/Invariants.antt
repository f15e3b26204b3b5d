use Rattle.std.proofs.Common.{◌≡◌, false, take}
use Rattle.std.specs.List.{All}
use Rattle.refutation_check.specs.TrialStates.{is_stale, AreTrialStates, KeepsSources}
use Rattle.refutation_check.proofs.trial_states.TrialStates.refresh.Given as goal

-- the gates before this place are not stale
abbrev pub invariant-loop-place : goal.invariant-loop-place
invariant-loop-place g l = record {
  kept : AreTrialStates g.A.Algebra.algebra l.net l.self;
  fresh : All (λ gate. is_stale l.self gate.0 ≡ false) (take l.place l.gates);
  sources : KeepsSources l.net l.initial.self l.self;
}
