use Rattle.std.proofs.Common.{◌≡◌, take}
use Rattle.clap.specs.Words.{app_of}
use Rattle.command_line.specs.ClapWords.{words_app}
use Rattle.command_line.proofs.parsing.words_parser.Given as goal

-- the command has the arguments of the options so far
abbrev pub invariant-loop-option : goal.invariant-loop-option
invariant-loop-option l = app_of l.parser ≡ words_app (take l.option-index l.options)
