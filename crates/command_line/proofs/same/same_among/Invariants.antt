use Rattle.std.proofs.Common.{◌≡◌, length}
use Rattle.command_line.specs.Reading.{first_same}
use Rattle.command_line.specs.Taken.{names_placed}
use Rattle.command_line.proofs.same.same_among.Given as goal

-- no name so far is equal to a later one
abbrev pub invariant-loop-rest : goal.invariant-loop-rest
invariant-loop-rest l = first_same (names_placed l.rest) ≡ first_same (names_placed l.names)

abbrev pub decreases-loop-rest : goal.decreases-loop-rest
decreases-loop-rest l = length l.rest
