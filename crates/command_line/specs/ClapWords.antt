-- What clap is told of the words of a command, in clap's own words; no other crate sees them (this project's own). The options are exactly
-- those that the command knows.
use Rattle.std.specs.Prelude.{ℕ, List, [], ◌∷◌, map, option_map, unwrap_or, Some, codes}
use Rattle.clap.specs.declared.builder.action.ArgAction.TheVariants.{Append}
use Rattle.clap.specs.Words.{App, Rule, first_value, matched_of, new_app, new_rule, raw_values}
use Rattle.clap.specs.declared.parser.matches.Found.{Found}
use Rattle.command_line.specs.Options.{option_entry, option_word}
use Rattle.command_line.specs.Reading.{Texts}
use Rattle.command_line.specs.declared.option_name.OptionName.{OptionName}

-- the argument that takes all positional words
abbrev pub word_rule : Rule
word_rule = record (new_rule (codes "positional")) { action = Some Append }

-- the argument of an option with this word and name, which has a value
abbrev pub argument_rule : List ℕ → List ℕ → Rule
argument_rule word name = record (new_rule word) { long = Some name }

-- the argument of an option
abbrev pub option_rule : OptionName → Rule
option_rule option = argument_rule (option_word option) (option_entry option).name

-- the command with its arguments
abbrev pub words_app : List OptionName → App
words_app options =
    let app = new_app (codes "pdfgen") in
    record app { top = record app.top { rules = word_rule ∷ map option_rule options } }

-- what was found of words
abbrev pub texts_found : Found → Texts
texts_found found = record {
  positional = unwrap_or (option_map raw_values (matched_of found (codes "positional"))) [];
  values = λ option. first_value found (option_word option);
}
