use Rattle.std.proofs.Common.{◌≡◌, length}
use Rattle.command_line.specs.Options.{option_word}
use Rattle.command_line.specs.Reading.{value_among, value_given}
use Rattle.command_line.specs.Taken.{given_of, values_seen}
use Rattle.command_line.proofs.taken.Taken.value.Given as goal

-- no value so far is the option's
abbrev pub invariant-loop-rest : goal.invariant-loop-rest
invariant-loop-rest l = value_among (option_word l.option) (values_seen l.rest) ≡ value_given l.option (given_of l.self)

abbrev pub decreases-loop-rest : goal.decreases-loop-rest
decreases-loop-rest l = length l.rest
