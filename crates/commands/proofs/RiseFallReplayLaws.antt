-- Which inputs `rfreplay` accepts, and what holds of its calls.
use Rattle.std.proofs.Common.{true, [], ◌∷◌, ◌++◌, Some, refl, sym, subst}
use Rattle.pd_base.specs.declared.fault.Direction.TheVariants.{Rise}
use Rattle.pd_io.specs.Folder.{Folder}
use Rattle.pd_io.specs.Seen.{Outside}
use Rattle.delay_annotation.specs.declared.setting.Columns.TheVariants.{RiseAndFall}
use Rattle.command_line.specs.Words.{HasRunNumbers, RiseFallReplayCall, RunCall}
use Rattle.calls.specs.declared.role.Role.TheVariants as role
use Rattle.calls.specs.declared.status.Status.{Status}
use Rattle.calls.specs.Calls.{Ends, HasAcceptedInputs}
use Rattle.calls.proofs.Calls.{completes}
use Rattle.commands.specs.InputRequirements.{own, tests_and_report_forms, tests_and_report_stages}
use Rattle.calls.specs.Work.{Require}
use Rattle.commands.specs.LaterCalls.{HasNamesApart}
use Rattle.commands.specs.Replay.{FewChanges}
use Rattle.commands.specs.RiseFallReplay.{rise_fall_replay_command, rise_fall_replay_work}
use Rattle.commands.specs.RiseFallReplayLaws.{CanBeRiseFallReplayed, KeepsRiseFallReplayLaws, texts_at}
use Rattle.commands.proofs.AskedRuns.{asks_for}
use Rattle.commands.proofs.GenThenRiseFall.{rise_fall_answers}
use Rattle.commands.proofs.InputStages.{delays_pass}
use Rattle.commands.proofs.ListedStages.{accepts_both}
use Rattle.commands.proofs.RiseFallAccepting.{accepts_few, four}
use Rattle.commands.proofs.StageReads.{accepts_size}

-- what can be replayed is accepted
accepted : (call : RiseFallReplayCall) (now : Folder) → CanBeRiseFallReplayed call now → HasAcceptedInputs (rise_fall_replay_work call) (Some now)
accepted call now can =
    let command = rise_fall_replay_command call in
    let texts = texts_at call now in
    let formed =
    accepts_both command texts.net (texts.delays ∷ texts.tests ∷ texts.report ∷ []) can.read.circuit can.are.has 2 texts.tests texts.report refl
    refl can.read.tests can.read.paths can.are.spell in
    record {
      inputs = four texts;
      told = tt;
      passed =
          delays_pass command RiseAndFall Rise now call.net call.delays
          (tests_and_report_stages call.tests call.report ++ tests_and_report_forms 2 ++ Require (own FewChanges) ∷ [])
          can.read.circuit (λ pin. can.read.delays pin true) (four texts) can.within.net can.are.has can.within.delays can.are.gives.0 (
            texts.tests,
            refl,
            (
              accepts_size command role.Tests (texts.net ∷ texts.delays ∷ []) texts.tests can.within.tests,
              (
                texts.report,
                refl,
                (
                  accepts_size command role.Report (texts.net ∷ texts.delays ∷ texts.tests ∷ []) texts.report can.within.report,
                  (formed.0, (formed.1, (accepts_few texts can.read can.are can.few call, refl))),
                ),
              ),
            ),
          );
    }

-- what holds of a call of rfreplay
pub rise_fall_replay_laws : (call : RiseFallReplayCall) (status : Status) (old new : Outside) → Ends (rise_fall_replay_work call) status old new
    → KeepsRiseFallReplayLaws call status old new
rise_fall_replay_laws call status old new ends = record {
  complete = λ now can told none.
      completes (rise_fall_replay_work call) status old new ends
      (subst (HasAcceptedInputs (rise_fall_replay_work call)) (sym told) (accepted call now can)) none;
  behind_gen = λ run left now was finds told none.
      let asked = asks_for was.words run was.asked in
      let P : RunCall → Type 0 = λ r. HasRunNumbers r in
      let Q : RunCall → Type 0 = λ r. HasNamesApart r in
      rise_fall_answers run (subst P asked.1 asked.0.numbers) (subst Q asked.1 asked.0.names) left now was.left_by call finds status old new told
      ends none;
}
