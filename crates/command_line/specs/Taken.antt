-- The values of the code, as contracts see them: what an option is, what words gave, and what clap has of them (this project's own).
use Rattle.std.specs.Prelude.{◌≡◌, ⊤, List, map, option_map, Result, Ok, Err}
use Rattle.clap.specs.Words.{first_value, found_of}
use Rattle.command_line.specs.Commands.{bytes_of_words}
use Rattle.command_line.specs.Kinds.{Kind, alone, valued, hyphened, empty, plain}
use Rattle.command_line.specs.Options.{OptionEntry, option_word}
use Rattle.command_line.specs.Reading.{Given, OptionValue, PlacedWord, Texts, WordsForm}
use Rattle.command_line.specs.Values.{Allowed, number, one_of, file_name}
use Rattle.command_line.specs.declared.fault.WordsFault.{WordsFault}
use Rattle.command_line.specs.declared.fault.WordsFault.TheVariants.{Refused, NoMemory}
use Rattle.command_line.specs.declared.form.WordsForm.{WordsForm as FormInCode}
use Rattle.command_line.specs.declared.kind.WordKind.{WordKind}
use Rattle.command_line.specs.declared.kind.WordKind.TheVariants.{Alone, Valued, Hyphened, Empty, Plain}
use Rattle.command_line.specs.declared.option_name.OptionEntry.{OptionEntry as EntryInCode}
use Rattle.command_line.specs.declared.parsing.Parsed.{Parsed}
use Rattle.command_line.specs.declared.refusal.WordsRefusal.{WordsRefusal}
use Rattle.command_line.specs.declared.taken.OptionValue.{OptionValue as ValueInCode}
use Rattle.command_line.specs.declared.taken.PlacedName.{PlacedName}
use Rattle.command_line.specs.declared.taken.Taken.{Taken}
use Rattle.command_line.specs.declared.value_kind.ValueKind.{ValueKind}
use Rattle.command_line.specs.declared.value_kind.ValueKind.TheVariants.{Number, OneOf, FileName}

-- what the value of a word may be
abbrev pub allowed_seen : ValueKind → Allowed
allowed_seen (Number least greatest digits) = number least greatest digits
allowed_seen (OneOf words) = one_of (bytes_of_words words.now)
allowed_seen FileName = file_name

-- what the rules say of an option
abbrev pub entry_seen : EntryInCode → OptionEntry
entry_seen entry = record {
  name = entry.name.now;
  allowed = allowed_seen entry.kind;
  default = option_map (λ text. text.now) entry.default;
}

-- what may stand behind a command's own word
abbrev pub form_seen : FormInCode → WordsForm
form_seen form = record { options = form.options.now; positional = form.positional; files = form.files }

-- the kind of a word
abbrev pub kind_seen : WordKind → Kind
kind_seen (Alone option) = alone option
kind_seen (Valued option value) = valued option value.now
kind_seen Hyphened = hyphened
kind_seen Empty = empty
kind_seen Plain = plain

-- the name of a file, with its bytes
abbrev pub name_placed : PlacedName → PlacedWord
name_placed name = record { place = name.place; text = name.text.now }

-- names of files, with their bytes
abbrev pub names_placed : List PlacedName → List PlacedWord
names_placed names = map name_placed names

-- the value of an option, with its bytes
abbrev pub value_seen : ValueInCode → OptionValue
value_seen value = record { option = value.option; text = value.text.now }

-- values of options, with their bytes
abbrev pub values_seen : List ValueInCode → List OptionValue
values_seen values = map value_seen values

-- what the words so far gave
abbrev pub given_of : Taken → Given
given_of taken = record {
  positional = bytes_of_words taken.positional.items;
  values = values_seen taken.values.items;
  names = names_placed taken.names.items;
  due = taken.due;
}

-- the words are refused for the reason that this outcome has, or memory ran out
abbrev pub IsFaultOf : {A : Type 0} → Result A WordsRefusal → WordsFault → Type 0
IsFaultOf outcome (Refused reason) = outcome ≡ Err reason
IsFaultOf outcome (NoMemory _) = ⊤

-- a word was taken, or is refused, as this outcome has it, or memory ran out
abbrev pub TakesAs : Result Given WordsRefusal → Given → Result ⊤ WordsFault → Type 0
TakesAs outcome given (Ok done) = outcome ≡ Ok given
TakesAs outcome given (Err fault) = IsFaultOf outcome fault

-- what clap has of words
abbrev pub texts_parsed : Parsed → Texts
texts_parsed parsed = record {
  positional = bytes_of_words parsed.positional.items;
  values = λ option. first_value (found_of parsed.matches) (option_word option);
}
