-- There are as many words as the form has, and the number is within its limits.
use Rattle.std.proofs.Common.{refl, subst, sym}
use Rattle.command_line.specs.Commands.{bytes_of_words}
use Rattle.command_line.specs.MakeForm.{HasMakeNumbers, make_form}
use Rattle.command_line.specs.Taken.{texts_parsed}
use Rattle.command_line.proofs.Asking.{all_texts_there}
use Rattle.command_line.proofs.FormNumbers.{make_numbers}
use Rattle.command_line.proofs.forms.make.read_make.Goals as goal

pub make_command-requires : goal.make_command-requires
make_command-requires c =
    all_texts_there make_form refl (bytes_of_words c.args.later.now) (texts_parsed c.in_ok-parsed.parsed) c.in_ok-parsed.ensures.parsed

pub returns-clause-numbers : goal.returns-clause-numbers
returns-clause-numbers c =
    subst HasMakeNumbers (sym c.make_command.ensures)
    (make_numbers (bytes_of_words c.args.later.now) (texts_parsed c.in_ok-parsed.parsed) c.in_ok-parsed.ensures.parsed)
