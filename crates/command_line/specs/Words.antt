-- What the words of the command line ask for: the list of commands (this project's own). How words are read, Reading.antt says; the words of
-- a command, its form: RunForm.antt and the other files of that kind.
use Rattle.std.specs.Prelude.{⊤, ℕ, Bool, List, [], ◌∷◌, Result, Ok, Err, codes, nat_eq, if◌then◌else◌}
use Rattle.std.specs.Cmp.Lexicographic.{pointwise}
use Rattle.command_line.specs.RunForm.{RunCall, HasRunNumbers, asked_run, run_call_of}
use Rattle.command_line.specs.ReplayForm.{ReplayCall, HasReplayNumbers, asked_replay, replay_call_of}
use Rattle.command_line.specs.MakeForm.{MakeCall, HasMakeNumbers, asked_make, make_call_of}
use Rattle.command_line.specs.RiseFallReplayForm.{RiseFallReplayCall, HasRiseFallReplayNumbers, asked_rise_fall_replay, rise_fall_replay_call_of}
use Rattle.command_line.specs.CompactForm.{CompactCall, asked_compact, compact_call_of}
use Rattle.command_line.specs.BoundsForm.{BoundsCall, asked_bounds, bounds_call_of}
use Rattle.command_line.specs.ScanForm.{ScanCall, asked_scan, scan_call_of}
use Rattle.command_line.specs.Reading.{then_taken}
use Rattle.command_line.specs.declared.command.Command.{Command}
use Rattle.command_line.specs.declared.command.Command.TheVariants.{Gen, Check, Replay, Make, RiseFallReplay, Compact, Bounds, Scan}
use Rattle.command_line.specs.declared.refusal.WordsRefusal.{WordsRefusal}
use Rattle.command_line.specs.declared.refusal.WordsRefusal.TheVariants.{Command as NoCommand}
pub use Rattle.command_line.specs.RunForm.{RunCall, HasRunNumbers}
pub use Rattle.command_line.specs.ReplayForm.{ReplayCall, HasReplayNumbers}
pub use Rattle.command_line.specs.MakeForm.{MakeCall, HasMakeNumbers}
pub use Rattle.command_line.specs.RiseFallReplayForm.{RiseFallReplayCall, HasRiseFallReplayNumbers}
pub use Rattle.command_line.specs.CompactForm.{CompactCall}
pub use Rattle.command_line.specs.BoundsForm.{BoundsCall}
pub use Rattle.command_line.specs.ScanForm.{ScanCall}

-- what is asked for, by command
pub data Call : Type 0 where
  gen : RunCall → Call
  check : RunCall → Call
  replay : ReplayCall → Call
  make : MakeCall → Call
  rise_fall_replay : RiseFallReplayCall → Call
  compact : CompactCall → Call
  bounds : BoundsCall → Call
  scan : ScanCall → Call

-- the numbers of a call are within their limits, where it has any
abbrev pub HasLawfulNumbers : Call → Type 0
HasLawfulNumbers (gen call) = HasRunNumbers call
HasLawfulNumbers (check call) = HasRunNumbers call
HasLawfulNumbers (replay call) = HasReplayNumbers call
HasLawfulNumbers (make call) = HasMakeNumbers call
HasLawfulNumbers (rise_fall_replay call) = HasRiseFallReplayNumbers call
HasLawfulNumbers (compact call) = ⊤
HasLawfulNumbers (bounds call) = ⊤
HasLawfulNumbers (scan call) = ⊤

-- the call that a command stands for
abbrev pub call_of : Command → Call
call_of (Gen command) = gen (run_call_of command)
call_of (Check command) = check (run_call_of command)
call_of (Replay command) = replay (replay_call_of command)
call_of (Make command) = make (make_call_of command)
call_of (RiseFallReplay command) = rise_fall_replay (rise_fall_replay_call_of command)
call_of (Compact command) = compact (compact_call_of command)
call_of (Bounds command) = bounds (bounds_call_of command)
call_of (Scan command) = scan (scan_call_of command)

-- a call of a command, if its words are accepted
abbrev pub as_call : {A : Type 0} → (A → Call) → Result A WordsRefusal → Result Call WordsRefusal
as_call command asked = then_taken asked (λ call. Ok (command call))

-- the word is this one
abbrev is_word : List ℕ → List ℕ → Bool
is_word word other = pointwise nat_eq word other

-- what the words ask for, or why they are refused
abbrev pub asked_call : List (List ℕ) → Result Call WordsRefusal
asked_call [] = Err NoCommand
asked_call (first ∷ words) =
    if is_word first (codes "gen") then as_call gen (asked_run words)
    else if is_word first (codes "check") then as_call check (asked_run words)
    else if is_word first (codes "replay") then as_call replay (asked_replay words)
    else if is_word first (codes "make") then as_call make (asked_make words)
    else if is_word first (codes "rfreplay") then as_call rise_fall_replay (asked_rise_fall_replay words)
    else if is_word first (codes "compact") then as_call compact (asked_compact words)
    else if is_word first (codes "bounds") then as_call bounds (asked_bounds words)
    else if is_word first (codes "scan") then as_call scan (asked_scan words)
    else Err NoCommand
