-- Words that the rules accept, as clap has them: positional words and options with their values, in any order.
use Rattle.std.proofs.Common.{◌≡◌, ◌≢◌, ℕ, true, List, [], ◌∷◌, ◌++◌, None}
use Rattle.std.specs.Prelude.{⊤}
use Rattle.std.specs.List.{list_any}
use Rattle.command_line.specs.Options.{has_name, option_word, same_option}
use Rattle.command_line.specs.Reading.{OptionValue, value_among}
use Rattle.command_line.specs.declared.option_name.OptionName.{OptionName}

-- a positional word, an option with its value behind it, or an option with its value attached
pub data Item : Type 0 where
  lone : (first : ℕ) (later : List ℕ) → Item
  apart : OptionName → (first : ℕ) (later : List ℕ) → Item
  attached : OptionName → List ℕ → Item

-- the words of items
abbrev pub words_of : List Item → List (List ℕ)
words_of [] = []
words_of (lone first later ∷ items) = (first ∷ later) ∷ words_of items
words_of (apart option first later ∷ items) = option_word option ∷ (first ∷ later) ∷ words_of items
words_of (attached option value ∷ items) = (option_word option ++ 61 ∷ value) ∷ words_of items

-- what items give: texts alone
pub record Said : Type 0 where
  pub positional : List (List ℕ)
  pub values : List OptionValue

abbrev pub nothing_said : Said
nothing_said = record { positional = []; values = [] }

-- an option is given a value
abbrev pub said_value : OptionName → List ℕ → Said → Said
said_value option value said = record said { values = said.values ++ record { option = option; text = value } ∷ [] }

abbrev pub said_with : Said → Item → Said
said_with said (lone first later) = record said { positional = said.positional ++ (first ∷ later) ∷ [] }
said_with said (apart option first later) = said_value option (first ∷ later) said
said_with said (attached option value) = said_value option value said

-- the option is one of these
abbrev pub IsAmong : OptionName → List OptionName → Type 0
IsAmong option options = list_any (λ other. same_option other option) options ≡ true

-- the option is one of these, and has a name
pub record IsKnown (options : List OptionName) (option : OptionName) : Type 0 where
  pub among : IsAmong option options
  pub named : has_name option ≡ true

-- A word that is no option's begins with another byte than a hyphen, and so does a value behind an option. An option is one that the
-- command knows, and is not given before.
abbrev pub MayCome : List OptionName → Said → Item → Type 0
MayCome options said (lone first later) = first ≢ 45
MayCome options said (apart option first later) = IsKnown options option × (first ≢ 45) × (value_among (option_word option) said.values ≡ None)
MayCome options said (attached option value) = IsKnown options option × (value_among (option_word option) said.values ≡ None)

abbrev pub MayFollow : List OptionName → Said → List Item → Type 0
MayFollow options said [] = ⊤
MayFollow options said (item ∷ items) = MayCome options said item × MayFollow options (said_with said item) items

abbrev pub all_said : Said → List Item → Said
all_said said [] = said
all_said said (item ∷ items) = all_said (said_with said item) items
