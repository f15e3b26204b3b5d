-- There are as many names as roles.
use Rattle.std.proofs.Common.{refl}
use Rattle.command_line.specs.Commands.{bytes_of_words}
use Rattle.command_line.specs.ScanForm.{scan_form}
use Rattle.command_line.specs.Taken.{texts_parsed}
use Rattle.command_line.proofs.Asking.{all_texts_there}
use Rattle.command_line.proofs.forms.scan.read_scan.Goals as goal

pub scan_command-requires : goal.scan_command-requires
scan_command-requires c =
    all_texts_there scan_form refl (bytes_of_words c.args.later.now) (texts_parsed c.in_ok-parsed.parsed) c.in_ok-parsed.ensures.parsed
