-- What holds of a call with its words, by the command that they ask for. A further command adds a case.
use Rattle.std.proofs.Common.{◌≡◌, ℕ, List, Result, Ok, Err, refl}
use Rattle.pd_io.specs.Seen.{Outside}
use Rattle.command_line.specs.declared.refusal.WordsRefusal.{WordsRefusal}
use Rattle.command_line.specs.Words.{Call, asked_call, bounds, check, compact, gen, make, replay, rise_fall_replay, scan}
use Rattle.calls.specs.declared.status.Status.{Status}
use Rattle.calls.specs.Calls.{Ends}
use Rattle.calls.proofs.AtOnce.{reports_at_once}
use Rattle.commands.specs.Commands.{KeepsAskedLaws, KeepsLawsOf, asked_work, work_of}
use Rattle.commands.specs.WordsRefusals.{words_refusal}
use Rattle.commands.proofs.BoundsLaws.{bounds_laws}
use Rattle.commands.proofs.CheckExactly.{check_laws}
use Rattle.commands.proofs.CompactLaws.{compact_laws}
use Rattle.commands.proofs.GenLaws.{gen_laws}
use Rattle.commands.proofs.MakeLaws.{make_laws}
use Rattle.commands.proofs.ReplayLaws.{replay_laws}
use Rattle.commands.proofs.RiseFallReplayLaws.{rise_fall_replay_laws}
use Rattle.commands.proofs.ScanLaws.{scan_laws}

module _ (words : List (List ℕ)) (status : Status) (old new : Outside) where
  laws_of : (asked : Result Call WordsRefusal) → asked_call words ≡ asked → Ends (work_of asked) status old new
      → KeepsLawsOf words asked status old new
  laws_of (Ok (gen call)) is ends = gen_laws call status old new ends
  laws_of (Ok (check call)) is ends = check_laws words call is status old new ends
  laws_of (Ok (replay call)) is ends = replay_laws call status old new ends
  laws_of (Ok (make call)) is ends = make_laws call status old new ends
  laws_of (Ok (rise_fall_replay call)) is ends = rise_fall_replay_laws call status old new ends
  laws_of (Ok (compact call)) is ends = compact_laws call status old new ends
  laws_of (Ok (bounds call)) is ends = bounds_laws call status old new ends
  laws_of (Ok (scan call)) is ends = scan_laws call status old new ends
  laws_of (Err reason) is ends = reports_at_once (words_refusal reason) status old new ends

  pub asked_laws : Ends (asked_work words) status old new → KeepsAskedLaws words status old new
  asked_laws ends = laws_of (asked_call words) refl ends
