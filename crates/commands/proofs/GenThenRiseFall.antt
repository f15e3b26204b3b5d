-- The tests and the report that gen wrote, rfreplay replays: with the same NET, and whatever DELAYS it accepts, it refuses none of them but
-- where lines change too often.
use Rattle.std.proofs.Common.{◌≡◌, ℕ, List, [], ◌∷◌, Some, refl, sym, subst, ◌∙◌}
use Rattle.pd_io.specs.Folder.{bytes_at, Folder}
use Rattle.pd_io.specs.Seen.{Outside}
use Rattle.bench_reader.specs.Circuits.{HasCircuit}
use Rattle.bench_reader.proofs.LawfulCircuits.{is_circuit}
use Rattle.delay_annotation.specs.declared.setting.Columns.TheVariants.{RiseAndFall}
use Rattle.run_files.specs.TestsText.{tests_text}
use Rattle.run_files.specs.ReportText.{report_text}
use Rattle.command_line.specs.Words.{HasRunNumbers, RiseFallReplayCall, RunCall}
use Rattle.calls.specs.declared.role.Role.TheVariants as role
use Rattle.calls.specs.declared.status.Status.{Status}
use Rattle.calls.specs.Calls.{Ends, NoneFailed}
use Rattle.calls.specs.Laws.{AnswersAt}
use Rattle.calls.specs.Passing.{Pass}
use Rattle.calls.proofs.LaterStages.{answered_at}
use Rattle.commands.specs.InputRequirements.{delays_stages, own}
use Rattle.commands.specs.Replay.{FewChanges}
use Rattle.commands.specs.RiseFallReplay.{rise_fall_front, rise_fall_replay_command, rise_fall_replay_work}
use Rattle.commands.specs.RiseFallReplayLaws.{rise_fall_inputs}
use Rattle.commands.specs.SpelledRuns.{SpellTestsAndPaths}
use Rattle.commands.specs.Gen.{gen_work}
use Rattle.commands.specs.LaterCalls.{FindsTestsAndReport, HasNamesApart, IsLeftBy}
use Rattle.commands.proofs.GenLeft.{files_left, LeftFiles}
use Rattle.commands.proofs.GoodTexts.{CanBeRead, readable_texts, spelled_run}
use Rattle.commands.proofs.ListedStages.{accepts_both}
use Rattle.commands.proofs.StageReads.{accepts_size}

module _ (call : RunCall) (numbers : HasRunNumbers call) (left now : Folder) (it : LeftFiles call left) (replay : RiseFallReplayCall)
    (finds : FindsTestsAndReport call left replay now) where
  abbrev tests : List ℕ
  tests = tests_text it.circuit it.run.tests

  abbrev report : List ℕ
  report = report_text it.circuit it.run.paths

  short : CanBeRead it.circuit it.run
  short =
      readable_texts it.circuit (is_circuit it.net it.circuit it.has) call numbers it.delay_file it.delays it.has_delays it.run it.good it.lawful
      it.short

  -- both texts have their form
  spell : SpellTestsAndPaths it.circuit tests report it.run.tests it.run.paths
  spell =
      let spells =
      spelled_run it.circuit (is_circuit it.net it.circuit it.has) call numbers it.delay_file it.delays it.has_delays it.run it.good it.lawful
      it.launch it.of_mode in
      record { tests_are = spells.tests_are; report_is = spells.report_is }

  -- NET has the circuit of gen's tests
  net_has : (net : List ℕ) → net ≡ bytes_at now.held replay.net → HasCircuit net it.circuit
  net_has net is = subst (λ (bytes : List ℕ). HasCircuit bytes it.circuit) (sym (is ∙ finds.net ∙ it.net_is)) it.has

  -- with some NET and DELAYS and with gen's tests and report, all stages but the last are passed
  record PassesFront : Type 0 where
    net : List ℕ
    delays : List ℕ
    net_is : net ≡ bytes_at now.held replay.net
    delays_is : delays ≡ bytes_at now.held replay.delays
    goes_on : (all : List (List ℕ)) → net ∷ delays ∷ tests ∷ report ∷ [] ≡ all
        → Pass (rise_fall_replay_work replay) (Some now) (rise_fall_front replay) [] all

  passes_front : (inputs : List (List ℕ))
      → Pass (rise_fall_replay_work replay) (Some now) (delays_stages RiseAndFall replay.net replay.delays) [] inputs → PassesFront
  passes_front inputs (net, is_net, (net_size, (circuit, (delays, is_delays, (delays_size, (spells, all)))))) =
      let command = rise_fall_replay_command replay in
      let formed =
      accepts_both command net (delays ∷ tests ∷ report ∷ []) it.circuit (net_has net is_net) 2 tests report refl refl it.run.tests it.run.paths
      spell in
      record {
        net = net;
        delays = delays;
        net_is = is_net;
        delays_is = is_delays;
        goes_on = λ all same.
            (net, is_net, (net_size, (circuit, (delays, is_delays, (delays_size, (spells, (tests, sym (finds.tests ∙ it.tests_is), (accepts_size command role.Tests (net ∷ delays ∷ []) tests short.tests, (report, sym (finds.report ∙ it.report_is), (accepts_size command role.Report (net ∷ delays ∷ tests ∷ []) report short.report, (formed.0, (formed.1, sym same))))))))))));
      }

  passes : PassesFront
  passes = passes_front finds.inputs finds.accepted

  -- what is read is what stands in the folder
  read_is : rise_fall_inputs replay now ≡ passes.net ∷ passes.delays ∷ tests ∷ report ∷ []
  read_is = λ i. sym passes.net_is i ∷ sym passes.delays_is i ∷ (finds.tests ∙ it.tests_is) i ∷ (finds.report ∙ it.report_is) i ∷ []

  pub front_passes : Pass (rise_fall_replay_work replay) (Some now) (rise_fall_front replay) [] (rise_fall_inputs replay now)
  front_passes = passes.goes_on (rise_fall_inputs replay now) (sym read_is)

-- gen was done; rfreplay finds its NET, its TESTS and its REPORT, and accepts NET and DELAYS
module _ (call : RunCall) (numbers : HasRunNumbers call) (apart : HasNamesApart call) (left now : Folder) (done_by : IsLeftBy (gen_work call) left)
    (replay : RiseFallReplayCall) (finds : FindsTestsAndReport call left replay now) where
  -- where nothing failed a call is answered by 0, by want of memory, or for a test under which a line changes too often
  pub rise_fall_answers : (status : Status) (old new : Outside) → old.files.folder ≡ Some now → Ends (rise_fall_replay_work replay) status old new
      → NoneFailed old new
      → AnswersAt (rise_fall_replay_work replay) (own FewChanges) (rise_fall_inputs replay now) status old.err new.err
  rise_fall_answers status old new told ends none =
      answered_at (rise_fall_replay_work replay) (Some now) (rise_fall_front replay) (rise_fall_inputs replay now) tt
      (front_passes call numbers left now (files_left call apart left done_by) replay finds) (own FewChanges) refl status old new ends told none
