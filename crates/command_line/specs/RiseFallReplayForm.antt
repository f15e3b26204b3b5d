-- The words of `rfreplay`: the names of four files, and a time (this project's own).
use Rattle.std.specs.Prelude.{ℕ, ◌≤◌, List, [], None, Result, slice_index_or, unwrap_or}
use Rattle.command_line.specs.Reading.{Form, Texts, asked_by}
use Rattle.command_line.specs.Times.{time_reason, time_spelled}
use Rattle.command_line.specs.declared.forms.rise_fall_replay.RiseFallReplayCommand.{RiseFallReplayCommand}
use Rattle.command_line.specs.declared.forms.rise_fall_replay.TheConstants.{RISE_FALL_REPLAY_FILES}
use Rattle.command_line.specs.declared.refusal.WordsRefusal.{WordsRefusal}
use Rattle.command_line.specs.declared.time.TheConstants.{MOST_TIME}

-- a call of `rfreplay`: the files that it reads, and the time at which it samples
pub record RiseFallReplayCall : Type 0 where
  pub net : List ℕ
  pub delays : List ℕ
  pub tests : List ℕ
  pub report : List ℕ
  pub time : ℕ

-- the number of a call of `rfreplay` is within its limit
pub record HasRiseFallReplayNumbers (call : RiseFallReplayCall) : Type 0 where
  pub small_time : call.time ≤ MOST_TIME

-- the form of the words: the one behind the names is a time
abbrev pub rise_fall_replay_form : Form
rise_fall_replay_form = record {
  words = record { options = []; positional = 5; files = RISE_FALL_REPLAY_FILES };
  before_names = λ texts. time_reason (slice_index_or texts.positional RISE_FALL_REPLAY_FILES []);
  after_names = λ texts. None;
}

-- the call of `rfreplay` by words that say this
abbrev pub rise_fall_replay_call : Texts → RiseFallReplayCall
rise_fall_replay_call texts = record {
  net = slice_index_or texts.positional 0 [];
  delays = slice_index_or texts.positional 1 [];
  tests = slice_index_or texts.positional 2 [];
  report = slice_index_or texts.positional 3 [];
  time = unwrap_or (time_spelled (slice_index_or texts.positional RISE_FALL_REPLAY_FILES [])) 0;
}

-- what the words behind `rfreplay` ask for, or why they are refused
abbrev pub asked_rise_fall_replay : List (List ℕ) → Result RiseFallReplayCall WordsRefusal
asked_rise_fall_replay words = asked_by rise_fall_replay_form rise_fall_replay_call words

-- a call of `rfreplay`, with the bytes of its names
abbrev pub rise_fall_replay_call_of : RiseFallReplayCommand → RiseFallReplayCall
rise_fall_replay_call_of command = record {
  net = command.net.now;
  delays = command.delays.now;
  tests = command.tests.now;
  report = command.report.now;
  time = command.time;
}
