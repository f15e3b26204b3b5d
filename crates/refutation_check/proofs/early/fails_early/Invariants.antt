use Rattle.std.proofs.Common.{◌≡◌}
use Rattle.refutation_check.specs.TrialStates.{AreTrialStates, KeepsSources}
use Rattle.refutation_check.proofs.early.fails_early.Given as goal

-- the sources are in the states in which they were
abbrev pub invariant-loop-count : goal.invariant-loop-count
invariant-loop-count g l = record {
  kept : AreTrialStates g.A.Algebra.algebra l.net l.kept;
  sources : KeepsSources l.net l.initial.kept l.kept;
  room : l.blamed.room ≡ l.initial.blamed.room;
}
