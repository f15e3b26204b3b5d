-- The words of `compact`: the names of four files (this project's own).
use Rattle.std.specs.Prelude.{ℕ, List, [], None, Result, slice_index_or}
use Rattle.command_line.specs.Reading.{Form, Texts, asked_by}
use Rattle.command_line.specs.declared.forms.compact.CompactCommand.{CompactCommand}
use Rattle.command_line.specs.declared.refusal.WordsRefusal.{WordsRefusal}

-- a call of `compact`: the files that it reads, and the one that it writes
pub record CompactCall : Type 0 where
  pub net : List ℕ
  pub tests : List ℕ
  pub report : List ℕ
  pub out : List ℕ

-- the form of the words: all are names of files
abbrev pub compact_form : Form
compact_form = record {
  words = record { options = []; positional = 4; files = 4 };
  before_names = λ texts. None;
  after_names = λ texts. None;
}

-- the call of `compact` by words that say this
abbrev pub compact_call : Texts → CompactCall
compact_call texts = record {
  net = slice_index_or texts.positional 0 [];
  tests = slice_index_or texts.positional 1 [];
  report = slice_index_or texts.positional 2 [];
  out = slice_index_or texts.positional 3 [];
}

-- what the words behind `compact` ask for, or why they are refused
abbrev pub asked_compact : List (List ℕ) → Result CompactCall WordsRefusal
asked_compact words = asked_by compact_form compact_call words

-- a call of `compact`, with the bytes of its names
abbrev pub compact_call_of : CompactCommand → CompactCall
compact_call_of command = record {
  net = command.net.now;
  tests = command.tests.now;
  report = command.report.now;
  out = command.out.now;
}
