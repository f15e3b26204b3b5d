-- The words of `bounds`: the names of four files (this project's own).
use Rattle.std.specs.Prelude.{ℕ, List, [], None, Result, slice_index_or}
use Rattle.command_line.specs.Reading.{Form, Texts, asked_by}
use Rattle.command_line.specs.declared.forms.bounds.BoundsCommand.{BoundsCommand}
use Rattle.command_line.specs.declared.refusal.WordsRefusal.{WordsRefusal}

-- a call of `bounds`: the files that it reads
pub record BoundsCall : Type 0 where
  pub net : List ℕ
  pub tests : List ℕ
  pub report : List ℕ
  pub log : List ℕ

-- the form of the words: all are names of files
abbrev pub bounds_form : Form
bounds_form = record {
  words = record { options = []; positional = 4; files = 4 };
  before_names = λ texts. None;
  after_names = λ texts. None;
}

-- the call of `bounds` by words that say this
abbrev pub bounds_call : Texts → BoundsCall
bounds_call texts = record {
  net = slice_index_or texts.positional 0 [];
  tests = slice_index_or texts.positional 1 [];
  report = slice_index_or texts.positional 2 [];
  log = slice_index_or texts.positional 3 [];
}

-- what the words behind `bounds` ask for, or why they are refused
abbrev pub asked_bounds : List (List ℕ) → Result BoundsCall WordsRefusal
asked_bounds words = asked_by bounds_form bounds_call words

-- a call of `bounds`, with the bytes of its names
abbrev pub bounds_call_of : BoundsCommand → BoundsCall
bounds_call_of command = record {
  net = command.net.now;
  tests = command.tests.now;
  report = command.report.now;
  log = command.log.now;
}
