-- What a word behind a command's own is, by itself (this project's own).
use Rattle.std.specs.Prelude.{◌==◌, ℕ, List, [], ◌∷◌, Option, None, Some, if◌then◌else◌, unwrap_or}
use Rattle.command_line.specs.Options.{equals_sign, option_word}
use Rattle.command_line.specs.Values.{hyphen}
use Rattle.command_line.specs.declared.option_name.OptionName.{OptionName}

-- what a word may be
pub data Kind : Type 0 where
  -- an option's own word; its value is the next word
  alone : OptionName → Kind
  -- an option's word with its value
  valued : OptionName → List ℕ → Kind
  -- another word that begins with a hyphen
  hyphened : Kind
  -- a word without bytes
  empty : Kind
  -- any other word
  plain : Kind

-- what stands behind this front of a text
abbrev pub without_front : List ℕ → List ℕ → Option (List ℕ)
without_front [] text = Some text
without_front (byte ∷ front) [] = None
without_front (byte ∷ front) (first ∷ later) = if first == byte then without_front front later else None

-- the kind of a word that is no option of the command
abbrev pub other_kind : List ℕ → Kind
other_kind [] = empty
other_kind (first ∷ later) = if first == hyphen then hyphened else plain

-- the kind of a word that begins with an option's, by what stands behind that, if it is the option's
abbrev pub kind_behind : OptionName → Option (List ℕ) → Option Kind
kind_behind option None = None
kind_behind option (Some []) = Some (alone option)
kind_behind option (Some (first ∷ value)) = if first == equals_sign then Some (valued option value) else None

-- the kind of a word that may be this option's, if it is
abbrev pub option_kind : OptionName → List ℕ → Option Kind
option_kind option word = kind_behind option (without_front (option_word option) word)

-- the kind of a word of a command that knows these options
abbrev pub word_kind : List OptionName → List ℕ → Kind
word_kind [] word = other_kind word
word_kind (option ∷ options) word = unwrap_or (option_kind option word) (word_kind options word)
