-- There are as many words as the form has, and the number is within its limits.
use Rattle.std.proofs.Common.{refl, subst, sym}
use Rattle.command_line.specs.Commands.{bytes_of_words}
use Rattle.command_line.specs.RiseFallReplayForm.{HasRiseFallReplayNumbers, rise_fall_replay_form}
use Rattle.command_line.specs.Taken.{texts_parsed}
use Rattle.command_line.proofs.Asking.{all_texts_there}
use Rattle.command_line.proofs.FormNumbers.{rise_fall_replay_numbers}
use Rattle.command_line.proofs.forms.rise_fall_replay.read_rise_fall_replay.Goals as goal

pub rise_fall_replay_command-requires : goal.rise_fall_replay_command-requires
rise_fall_replay_command-requires c =
    all_texts_there rise_fall_replay_form refl (bytes_of_words c.args.later.now) (texts_parsed c.in_ok-parsed.parsed) c.in_ok-parsed.ensures.parsed

pub returns-clause-numbers : goal.returns-clause-numbers
returns-clause-numbers c =
    subst HasRiseFallReplayNumbers (sym c.rise_fall_replay_command.ensures)
    (rise_fall_replay_numbers (bytes_of_words c.args.later.now) (texts_parsed c.in_ok-parsed.parsed) c.in_ok-parsed.ensures.parsed)
