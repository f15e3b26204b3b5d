use Rattle.std.proofs.Common.{◌≡◌, map, take}
use Rattle.logic_values.specs.Expected.{word_of}
use Rattle.logic_values.proofs.expected.take_words.Given as goal

-- the words of the lines so far are taken
abbrev pub invariant-loop-place : goal.invariant-loop-place
invariant-loop-place l = take l.place l.taken ≡ map (word_of l.words) (take l.place l.lines)
