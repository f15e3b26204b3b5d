-- What the words ask for: the work of a command, and what holds of its calls (this project's own). A further command adds a case each of
-- `work_of` and `KeepsLawsOf`.
use Rattle.std.specs.Prelude.{ℕ, List, Result, Ok, Err}
use Rattle.pd_io.specs.Seen.{Outside}
use Rattle.command_line.specs.declared.refusal.WordsRefusal.{WordsRefusal}
use Rattle.command_line.specs.declared.fault.WordsFault.{WordsFault}
use Rattle.command_line.specs.declared.fault.WordsFault.TheVariants as fault
use Rattle.command_line.specs.Words.{Call, gen, check, replay, make, rise_fall_replay, compact, bounds, scan, asked_call}
use Rattle.calls.specs.declared.ending.Ending.{Ending}
use Rattle.calls.specs.declared.ending.Ending.TheVariants as ended
use Rattle.calls.specs.Work.{Work}
use Rattle.calls.specs.Refused.{ReportsAtOnce, refused_at_once}
use Rattle.calls.specs.declared.status.Status.{Status}
use Rattle.commands.specs.Bounds.{bounds_work}
use Rattle.commands.specs.BoundsLaws.{KeepsBoundsLaws}
use Rattle.commands.specs.Check.{check_work}
use Rattle.commands.specs.CheckLaws.{KeepsCheckLaws}
use Rattle.commands.specs.Compact.{compact_work}
use Rattle.commands.specs.CompactLaws.{KeepsCompactLaws}
use Rattle.commands.specs.Gen.{gen_work}
use Rattle.commands.specs.GenLaws.{KeepsGenLaws}
use Rattle.commands.specs.Make.{make_work}
use Rattle.commands.specs.MakeLaws.{KeepsMakeLaws}
use Rattle.commands.specs.Replay.{replay_work}
use Rattle.commands.specs.ReplayLaws.{KeepsReplayLaws}
use Rattle.commands.specs.RiseFallReplay.{rise_fall_replay_work}
use Rattle.commands.specs.RiseFallReplayLaws.{KeepsRiseFallReplayLaws}
use Rattle.commands.specs.Scan.{scan_work}
use Rattle.commands.specs.ScanLaws.{KeepsScanLaws}
use Rattle.commands.specs.WordsRefusals.{words_refusal}

-- the work of a command, or of words that are refused
abbrev pub work_of : Result Call WordsRefusal → Work
work_of (Ok (gen call)) = gen_work call
work_of (Ok (check call)) = check_work call
work_of (Ok (replay call)) = replay_work call
work_of (Ok (make call)) = make_work call
work_of (Ok (rise_fall_replay call)) = rise_fall_replay_work call
work_of (Ok (compact call)) = compact_work call
work_of (Ok (bounds call)) = bounds_work call
work_of (Ok (scan call)) = scan_work call
work_of (Err reason) = refused_at_once (words_refusal reason)

-- what holds of a call of a command, which these words ask for, beside what holds of every call; one with refused words reports them, or
-- want of memory
abbrev pub KeepsLawsOf : List (List ℕ) → Result Call WordsRefusal → Status → Outside → Outside → Type 0
KeepsLawsOf words (Ok (gen call)) status old new = KeepsGenLaws call status old new
KeepsLawsOf words (Ok (check call)) status old new = KeepsCheckLaws words call status old new
KeepsLawsOf words (Ok (replay call)) status old new = KeepsReplayLaws call status old new
KeepsLawsOf words (Ok (make call)) status old new = KeepsMakeLaws status old new
KeepsLawsOf words (Ok (rise_fall_replay call)) status old new = KeepsRiseFallReplayLaws call status old new
KeepsLawsOf words (Ok (compact call)) status old new = KeepsCompactLaws call status old new
KeepsLawsOf words (Ok (bounds call)) status old new = KeepsBoundsLaws call status old new
KeepsLawsOf words (Ok (scan call)) status old new = KeepsScanLaws call status old new
KeepsLawsOf words (Err reason) status old new = ReportsAtOnce (words_refusal reason) status old.err new.err

-- the work that these words ask for
abbrev pub asked_work : List (List ℕ) → Work
asked_work words = work_of (asked_call words)

-- what holds of a call with these words, by what they ask for
abbrev pub KeepsAskedLaws : List (List ℕ) → Status → Outside → Outside → Type 0
KeepsAskedLaws words status old new = KeepsLawsOf words (asked_call words) status old new

-- how a call ends whose words give no command: they are refused, or memory ran out
abbrev pub words_ending : WordsFault → Ending
words_ending (fault.Refused reason) = ended.Refused (words_refusal reason)
words_ending (fault.NoMemory refused) = ended.NoMemory refused
