-- There are as many names as roles, and the numbers are within their limits.
use Rattle.std.proofs.Common.{refl, subst, sym}
use Rattle.command_line.specs.Commands.{bytes_of_words}
use Rattle.command_line.specs.RunForm.{HasRunNumbers, run_form}
use Rattle.command_line.specs.Taken.{texts_parsed}
use Rattle.command_line.proofs.Asking.{all_texts_there}
use Rattle.command_line.proofs.RunNumbers.{run_numbers}
use Rattle.command_line.proofs.forms.run.read_run.Goals as goal

pub run_command-requires : goal.run_command-requires
run_command-requires c =
    all_texts_there run_form refl (bytes_of_words c.args.later.now) (texts_parsed c.in_ok-parsed.parsed) c.in_ok-parsed.ensures.parsed

pub returns-clause-numbers : goal.returns-clause-numbers
returns-clause-numbers c =
    subst HasRunNumbers (sym c.run_command.ensures)
    (run_numbers (bytes_of_words c.args.later.now) (texts_parsed c.in_ok-parsed.parsed) c.in_ok-parsed.ensures.parsed)
