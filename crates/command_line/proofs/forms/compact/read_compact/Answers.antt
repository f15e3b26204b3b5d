-- There are as many names as roles.
use Rattle.std.proofs.Common.{refl}
use Rattle.command_line.specs.Commands.{bytes_of_words}
use Rattle.command_line.specs.CompactForm.{compact_form}
use Rattle.command_line.specs.Taken.{texts_parsed}
use Rattle.command_line.proofs.Asking.{all_texts_there}
use Rattle.command_line.proofs.forms.compact.read_compact.Goals as goal

pub compact_command-requires : goal.compact_command-requires
compact_command-requires c =
    all_texts_there compact_form refl (bytes_of_words c.args.later.now) (texts_parsed c.in_ok-parsed.parsed) c.in_ok-parsed.ensures.parsed
