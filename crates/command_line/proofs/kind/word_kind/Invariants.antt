use Rattle.std.proofs.Common.{◌≡◌, length}
use Rattle.command_line.specs.Kinds.{word_kind}
use Rattle.command_line.proofs.kind.word_kind.Given as goal

-- the word is none of the options so far
abbrev pub invariant-loop-rest : goal.invariant-loop-rest
invariant-loop-rest l = word_kind l.rest l.word ≡ word_kind l.options l.word

abbrev pub decreases-loop-rest : goal.decreases-loop-rest
decreases-loop-rest l = length l.rest
