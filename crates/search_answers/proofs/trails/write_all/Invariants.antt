-- The room stays.
use Rattle.std.proofs.Common.{◌≡◌}
use Rattle.search_answers.specs.declared.trails.TheConstants.{ROOM}
use Rattle.search_answers.proofs.trails.write_all.Given as goal

abbrev pub invariant-loop-word : goal.invariant-loop-word
invariant-loop-word l = l.trail.room ≡ ROOM
