-- The words of `replay`: the names of three files, and a time (this project's own).
use Rattle.std.specs.Prelude.{ℕ, ◌≤◌, List, [], None, Result, slice_index_or, unwrap_or}
use Rattle.command_line.specs.Reading.{Form, Texts, asked_by}
use Rattle.command_line.specs.Times.{time_reason, time_spelled}
use Rattle.command_line.specs.declared.forms.replay.ReplayCommand.{ReplayCommand}
use Rattle.command_line.specs.declared.forms.replay.TheConstants.{REPLAY_FILES}
use Rattle.command_line.specs.declared.refusal.WordsRefusal.{WordsRefusal}
use Rattle.command_line.specs.declared.time.TheConstants.{MOST_TIME}

-- a call of `replay`: the files that it reads, and the time at which it samples
pub record ReplayCall : Type 0 where
  pub net : List ℕ
  pub delays : List ℕ
  pub tests : List ℕ
  pub time : ℕ

-- the number of a call of `replay` is within its limit
pub record HasReplayNumbers (call : ReplayCall) : Type 0 where
  pub small_time : call.time ≤ MOST_TIME

-- the form of the words: the one behind the names is a time
abbrev pub replay_form : Form
replay_form = record {
  words = record { options = []; positional = 4; files = REPLAY_FILES };
  before_names = λ texts. time_reason (slice_index_or texts.positional REPLAY_FILES []);
  after_names = λ texts. None;
}

-- the call of `replay` by words that say this
abbrev pub replay_call : Texts → ReplayCall
replay_call texts = record {
  net = slice_index_or texts.positional 0 [];
  delays = slice_index_or texts.positional 1 [];
  tests = slice_index_or texts.positional 2 [];
  time = unwrap_or (time_spelled (slice_index_or texts.positional REPLAY_FILES [])) 0;
}

-- what the words behind `replay` ask for, or why they are refused
abbrev pub asked_replay : List (List ℕ) → Result ReplayCall WordsRefusal
asked_replay words = asked_by replay_form replay_call words

-- a call of `replay`, with the bytes of its names
abbrev pub replay_call_of : ReplayCommand → ReplayCall
replay_call_of command = record {
  net = command.net.now;
  delays = command.delays.now;
  tests = command.tests.now;
  time = command.time;
}
