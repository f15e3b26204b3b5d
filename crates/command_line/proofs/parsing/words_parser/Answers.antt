-- One option more.
use Rattle.command_line.proofs.Rules.{next_options}
use Rattle.command_line.proofs.parsing.words_parser.Goals as goal

pub loop-option-preserved : goal.loop-option-preserved
loop-option-preserved c =
    next_options c.args.options.now c.loop-option.option-index _ _ _ c.loop-option-test.true c.loop-option.invariant c.in_ok-parser-2.ensures.parser
