use Rattle.std.proofs.Common.{◌≡◌, length}
use Rattle.command_line.specs.Commands.{bytes_of_words}
use Rattle.command_line.specs.Values.{is_among}
use Rattle.command_line.proofs.value_kind.is_among.Given as goal

-- no word so far is the text
abbrev pub invariant-loop-rest : goal.invariant-loop-rest
invariant-loop-rest l = is_among (bytes_of_words l.rest) l.text ≡ is_among (bytes_of_words l.words) l.text

abbrev pub decreases-loop-rest : goal.decreases-loop-rest
decreases-loop-rest l = length l.rest
