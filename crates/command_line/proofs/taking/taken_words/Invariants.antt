use Rattle.std.proofs.Common.{◌≡◌, ◌+◌, drop}
use Rattle.command_line.specs.Commands.{bytes_of_words}
use Rattle.command_line.specs.Taken.{form_seen, given_of}
use Rattle.command_line.specs.Reading.{first_place, none_given, words_taken}
use Rattle.command_line.proofs.taking.taken_words.Given as goal

-- the words so far are taken
abbrev pub invariant-loop-index : goal.invariant-loop-index
invariant-loop-index l =
    words_taken (form_seen l.form) (first_place + l.index) (given_of l.taken) (bytes_of_words (drop l.index l.words))
    ≡ words_taken (form_seen l.form) first_place none_given (bytes_of_words l.words)
