-- The time at which a command samples, among words (this project's own).
use Rattle.std.specs.Prelude.{ℕ, List, Option, None, Some, if◌then◌else◌}
use Rattle.command_line.specs.Values.{is_within, number_spelled}
use Rattle.command_line.specs.declared.refusal.WordsRefusal.{WordsRefusal}
use Rattle.command_line.specs.declared.refusal.WordsRefusal.TheVariants.{Time}
use Rattle.command_line.specs.declared.time.TheConstants.{MOST_TIME, MOST_TIME_DIGITS}

-- the time that a text spells
abbrev pub time_spelled : List ℕ → Option ℕ
time_spelled text = number_spelled MOST_TIME_DIGITS text

-- why a text is no time, if it is none
abbrev pub time_reason : List ℕ → Option WordsRefusal
time_reason text = if is_within 0 MOST_TIME (time_spelled text) then None else Some Time
