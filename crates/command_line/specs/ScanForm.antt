-- The words of `scan`: the names of three files (this project's own).
use Rattle.std.specs.Prelude.{ℕ, List, [], None, Result, slice_index_or}
use Rattle.command_line.specs.Reading.{Form, Texts, asked_by}
use Rattle.command_line.specs.declared.forms.scan.ScanCommand.{ScanCommand}
use Rattle.command_line.specs.declared.refusal.WordsRefusal.{WordsRefusal}

-- a call of `scan`: the files that it reads
pub record ScanCall : Type 0 where
  pub net : List ℕ
  pub scan : List ℕ
  pub tests : List ℕ

-- the form of the words: all are names of files
abbrev pub scan_form : Form
scan_form = record {
  words = record { options = []; positional = 3; files = 3 };
  before_names = λ texts. None;
  after_names = λ texts. None;
}

-- the call of `scan` by words that say this
abbrev pub scan_call : Texts → ScanCall
scan_call texts = record {
  net = slice_index_or texts.positional 0 [];
  scan = slice_index_or texts.positional 1 [];
  tests = slice_index_or texts.positional 2 [];
}

-- what the words behind `scan` ask for, or why they are refused
abbrev pub asked_scan : List (List ℕ) → Result ScanCall WordsRefusal
asked_scan words = asked_by scan_form scan_call words

-- a call of `scan`, with the bytes of its names
abbrev pub scan_call_of : ScanCommand → ScanCall
scan_call_of command = record {
  net = command.net.now;
  scan = command.scan.now;
  tests = command.tests.now;
}
