use Rattle.std.proofs.Common.{◌≡◌, map, take}
use Rattle.std.specs.Prelude.{string_bytes}
use Rattle.command_line.specs.Commands.{bytes_of_words}
use Rattle.commands.proofs.exiting.words_of.Given as goal

-- the words are the arguments before this one
abbrev pub invariant-loop-argument : goal.invariant-loop-argument
invariant-loop-argument l = bytes_of_words l.words.items ≡ map string_bytes (take l.argument-index l.arguments)
