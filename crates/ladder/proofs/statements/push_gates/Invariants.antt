use Rattle.std.proofs.Common.{◌≡◌, ◌++◌, map}
use Rattle.ladder.specs.Ladder.{ladder_gates}
use Rattle.ladder.specs.Statements.{gate_stated}
use Rattle.ladder.proofs.statements.push_gates.Given as goal

-- the gates of the stages so far
abbrev pub invariant-loop-before : goal.invariant-loop-before
invariant-loop-before l = l.raw ≡ l.fn.raw ++ map gate_stated (ladder_gates l.before)
