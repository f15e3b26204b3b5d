use Rattle.std.proofs.Common.{◌≡◌, length}
use Rattle.command_line.specs.Reading.{place_of}
use Rattle.command_line.specs.Taken.{names_placed}
use Rattle.command_line.proofs.same.place_of.Given as goal

-- no name so far is the text
abbrev pub invariant-loop-rest : goal.invariant-loop-rest
invariant-loop-rest l = place_of l.text (names_placed l.rest) ≡ place_of l.text (names_placed l.names)

abbrev pub decreases-loop-rest : goal.decreases-loop-rest
decreases-loop-rest l = length l.rest
