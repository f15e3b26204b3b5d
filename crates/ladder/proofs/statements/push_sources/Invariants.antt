use Rattle.std.proofs.Common.{◌≡◌, map}
use Rattle.ladder.specs.Ladder.{ladder_sources}
use Rattle.ladder.specs.Statements.{input_stated}
use Rattle.ladder.proofs.statements.push_sources.Given as goal

-- the sources of the stages so far
abbrev pub invariant-loop-before : goal.invariant-loop-before
invariant-loop-before l = l.raw ≡ map input_stated (ladder_sources l.before)
