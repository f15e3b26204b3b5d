-- The tests that gen wrote, replay replays: with the same NET, and whatever DELAYS it accepts, it refuses none of them but where lines
-- change too often.
use Rattle.std.proofs.Common.{◌≡◌, ℕ, List, [], ◌∷◌, ◌++◌, Some, refl, sym, subst, ◌∙◌}
use Rattle.pd_io.specs.Folder.{bytes_at, Folder}
use Rattle.pd_io.specs.Seen.{Outside}
use Rattle.bench_reader.specs.Circuits.{HasCircuit}
use Rattle.bench_reader.proofs.LawfulCircuits.{is_circuit}
use Rattle.run_files.specs.TestsText.{tests_text}
use Rattle.command_line.specs.Words.{HasRunNumbers, ReplayCall, RunCall}
use Rattle.calls.specs.declared.role.Role.TheVariants as role
use Rattle.calls.specs.declared.status.Status.{Status}
use Rattle.calls.specs.Calls.{Ends, NoneFailed}
use Rattle.calls.specs.Laws.{AnswersAt}
use Rattle.calls.specs.Passing.{Accepts, Pass}
use Rattle.calls.specs.Work.{Require, Stage}
use Rattle.calls.proofs.LaterStages.{answered_at}
use Rattle.commands.specs.InputRequirements.{Requirement, WellFormed, WithinLimit, input_stages, own, read_stages}
use Rattle.commands.specs.Replay.{FewChanges, ReplayRequirement, replay_work}
use Rattle.commands.specs.ReplayLaws.{replay_inputs}
use Rattle.commands.proofs.ReplayAccepting.{accepts_tests, accepts_tests_size}
use Rattle.commands.specs.Gen.{gen_work}
use Rattle.commands.specs.LaterCalls.{FindsTests, HasNamesApart, IsLeftBy}
use Rattle.commands.proofs.GenLeft.{files_left, LeftFiles}
use Rattle.commands.proofs.GoodTexts.{readable_texts, CanBeRead}

module _ (replay : ReplayCall) where
  -- all stages of replay but the last
  abbrev front : List (Stage (Requirement ReplayRequirement))
  front = input_stages replay.net replay.delays ++ read_stages role.Tests replay.tests ++ Require (WellFormed role.Tests 2) ∷ []

module _ (call : RunCall) (numbers : HasRunNumbers call) (left now : Folder) (it : LeftFiles call left) (replay : ReplayCall)
    (finds : FindsTests call left replay now) where
  abbrev tests : List ℕ
  tests = tests_text it.circuit it.run.tests

  short : CanBeRead it.circuit it.run
  short =
      readable_texts it.circuit (is_circuit it.net it.circuit it.has) call numbers it.delay_file it.delays it.has_delays it.run it.good it.lawful
      it.short

  -- NET has the circuit of gen's tests
  net_has : (net : List ℕ) → net ≡ bytes_at now.held replay.net → HasCircuit net it.circuit
  net_has net is = subst (λ (bytes : List ℕ). HasCircuit bytes it.circuit) (sym (is ∙ finds.net ∙ it.net_is)) it.has

  -- with some NET and DELAYS and with gen's tests, all stages but the last are passed, and then the whole
  record PassesFront : Type 0 where
    net : List ℕ
    delays : List ℕ
    net_is : net ≡ bytes_at now.held replay.net
    delays_is : delays ≡ bytes_at now.held replay.delays
    goes_on : (behind : List (Stage (Requirement ReplayRequirement))) (all : List (List ℕ)) → Pass (replay_work replay) (Some now) behind (net ∷ delays ∷ tests ∷ []) all
        → Pass (replay_work replay) (Some now) (front replay ++ behind) [] all

  passes_front : (inputs : List (List ℕ)) → Pass (replay_work replay) (Some now) (input_stages replay.net replay.delays) [] inputs → PassesFront
  passes_front inputs (net, is_net, (net_size, (circuit, (delays, is_delays, (delays_size, (spells, all)))))) =
      let within : Accepts (replay_work replay) (WithinLimit role.Tests) (net ∷ delays ∷ tests ∷ []) =
      accepts_tests_size replay net delays tests short.tests in
      let formed : Accepts (replay_work replay) (WellFormed role.Tests 2) (net ∷ delays ∷ tests ∷ []) =
      accepts_tests replay net delays tests it.circuit (net_has net is_net) it.run.tests (record { lawful = it.lawful.tests; is_text = refl }) in
      record {
        net = net;
        delays = delays;
        net_is = is_net;
        delays_is = is_delays;
        goes_on = λ behind all pass.
            (net, is_net, (net_size, (circuit, (delays, is_delays, (delays_size, (spells, (tests, sym (finds.tests ∙ it.tests_is), (within, (formed, pass)))))))));
      }

  passes : PassesFront
  passes = passes_front finds.inputs finds.accepted

  -- what is read is what stands in the folder
  read_is : replay_inputs replay now ≡ passes.net ∷ passes.delays ∷ tests ∷ []
  read_is = λ i. sym passes.net_is i ∷ sym passes.delays_is i ∷ (finds.tests ∙ it.tests_is) i ∷ []

  pub front_passes : Pass (replay_work replay) (Some now) (front replay) [] (replay_inputs replay now)
  front_passes = passes.goes_on [] (replay_inputs replay now) read_is

-- gen was done; replay finds its NET and its TESTS, and accepts NET and DELAYS
module _ (call : RunCall) (numbers : HasRunNumbers call) (apart : HasNamesApart call) (left now : Folder) (done_by : IsLeftBy (gen_work call) left)
    (replay : ReplayCall) (finds : FindsTests call left replay now) where
  -- where nothing failed a call is answered by 0, by want of memory, or for a test under which a line changes too often
  pub replay_answers : (status : Status) (old new : Outside) → old.files.folder ≡ Some now → Ends (replay_work replay) status old new
      → NoneFailed old new → AnswersAt (replay_work replay) (own FewChanges) (replay_inputs replay now) status old.err new.err
  replay_answers status old new told ends none =
      answered_at (replay_work replay) (Some now) (front replay) (replay_inputs replay now) tt
      (front_passes call numbers left now (files_left call apart left done_by) replay finds) (own FewChanges) refl status old new ends told none
