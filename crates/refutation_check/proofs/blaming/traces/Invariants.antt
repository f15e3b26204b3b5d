use Rattle.std.proofs.Common.{◌≡◌, ◌-◌, ◌≤◌}
use Rattle.pair_judging.specs.Targets.{seen_target}
use Rattle.refutation_check.proofs.Tracing.{AreTraced}
use Rattle.refutation_check.proofs.blaming.traces.Given as goal

-- the lines before this place were traced
abbrev pub invariant-loop-place : goal.invariant-loop-place
invariant-loop-place g l = record {
  room : l.blamed.room ≡ l.initial.blamed.room;
  within : l.place ≤ l.blamed.room;
  traced : AreTraced g.A.Algebra.algebra l.net l.kept.states.items l.cone.links (seen_target l.target) l.fn.failure l.blamed.lines l.place;
}

abbrev pub decreases-loop-place : goal.decreases-loop-place
decreases-loop-place g l = l.blamed.room - l.place
