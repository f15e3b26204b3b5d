-- The options of the commands: the list of them, each with its name, what its value may be, and the value where none is given (this
-- project's own). Which commands know an option, their forms say.
use Rattle.std.specs.Prelude.{◌≡◌, ℕ, ◌==◌, ◌||◌, Bool, true, false, not, List, [], ◌∷◌, Option, None, Some, codes, nat_eq}
use Rattle.std.specs.List.{list_all, list_any}
use Rattle.std.specs.Cmp.Lexicographic.{pointwise}
use denote.Enum.Bare.{sameb}
use Rattle.pd_base.specs.declared.limits.TheConstants.{MOST_BUDGET, MOST_PATHS}
use Rattle.command_line.specs.Modes.{enhanced_word, mode_words}
use Rattle.command_line.specs.Values.{Allowed, number, one_of, file_name, hyphen}
use Rattle.command_line.specs.contracts.option_name.OptionName.{the_type}
use Rattle.command_line.specs.declared.number.TheConstants.{MOST_DIGITS}
use Rattle.command_line.specs.declared.option_name.OptionName.{OptionName}
use Rattle.command_line.specs.declared.option_name.OptionName.TheVariants.{Paths, Budget, Mode, Scan}

-- the byte of the sign that parts an option's word from its value, where they are one word
abbrev pub equals_sign : ℕ
equals_sign = 61

-- an option: its name, what its value may be, and the value that it has where none is given, if it has one
pub record OptionEntry : Type 0 where
  pub name : List ℕ
  pub allowed : Allowed
  pub default : Option (List ℕ)

-- the list of options: how many paths are to be listed, how many splits each search may make, the mode of the run,
-- and the file of the scan chains
abbrev pub option_entry : OptionName → OptionEntry
option_entry Paths = record { name = codes "paths"; allowed = number 1 MOST_PATHS MOST_DIGITS; default = Some (codes "100") }
option_entry Budget = record { name = codes "budget"; allowed = number 1 MOST_BUDGET MOST_DIGITS; default = Some (codes "1000") }
option_entry Mode = record { name = codes "mode"; allowed = one_of mode_words; default = Some enhanced_word }
option_entry Scan = record { name = codes "scan"; allowed = file_name; default = None }

-- the word of an option is its name behind two hyphens
abbrev pub option_word : OptionName → List ℕ
option_word option = hyphen ∷ hyphen ∷ (option_entry option).name

-- the two are one option
abbrev pub same_option : OptionName → OptionName → Bool
same_option one other = sameb the_type one other

-- a name that has bytes, none of which is an equals sign
abbrev pub is_option_name : List ℕ → Bool
is_option_name [] = false
is_option_name (first ∷ later) = not (list_any (λ byte. byte == equals_sign) (first ∷ later))

-- the option has such a name
abbrev pub has_name : OptionName → Bool
has_name option = is_option_name (option_entry option).name

-- the two are one option, or have two words
abbrev pub told_apart : OptionName → OptionName → Bool
told_apart one other = same_option one other || not (pointwise nat_eq (option_word one) (option_word other))

-- options of which no two have one word
abbrev pub are_apart : List OptionName → Bool
are_apart options = list_all (λ one. list_all (told_apart one) options) options

-- the options of a form: each has a name that clap may know it by, and no two have one word
pub record AreLawful (options : List OptionName) : Type 0 where
  pub named : list_all has_name options ≡ true
  pub apart : are_apart options ≡ true
