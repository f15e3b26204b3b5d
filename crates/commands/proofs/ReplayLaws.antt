-- Which inputs `replay` accepts, and what holds of its calls.
use Rattle.std.proofs.Common.{ℕ, ◌≤◌, List, length, Some, refl, sym, subst}
use Rattle.pd_base.specs.declared.test.Test.{Test}
use Rattle.pd_io.specs.Folder.{Folder, bytes_at}
use Rattle.pd_io.specs.Seen.{Outside}
use Rattle.netlist.specs.Circuit.{Circuit}
use Rattle.netlist.specs.Waves.{Delays}
use Rattle.bench_reader.specs.Circuits.{HasCircuit}
use Rattle.delay_annotation.specs.DelayFile.{HasDelays}
use Rattle.pd_base.specs.declared.limits.TheConstants.{MOST_BYTES}
use Rattle.command_line.specs.Words.{HasRunNumbers, ReplayCall, RunCall}
use Rattle.calls.specs.declared.status.Status.{Status}
use Rattle.calls.specs.Calls.{Ends, HasAcceptedInputs}
use Rattle.commands.specs.declared.inputs.reading.TheConstants.{INPUT_LIMIT}
use Rattle.commands.specs.SpelledTests.{SpellsTests}
use Rattle.commands.proofs.InputStages.{inputs_pass}
use Rattle.commands.specs.TestChanges.{HaveFewChanges}
use Rattle.calls.proofs.Calls.{completes}
use Rattle.commands.proofs.AskedRuns.{asks_for}
use Rattle.commands.proofs.GenThenReplay.{replay_answers}
use Rattle.commands.specs.LaterCalls.{HasNamesApart}
use Rattle.commands.specs.ReplayLaws.{KeepsReplayLaws}
use Rattle.commands.specs.Replay.{replay_command, replay_work, tests_stages}
pub use Rattle.commands.proofs.Printed.{printed_behind}
use Rattle.commands.proofs.ReplayAccepting.{accepts_tests_size, accepts_tests, accepts_few, three}

module _ (call : ReplayCall) (told : Folder) where
  -- the bytes under the name of NET
  abbrev net : List ℕ
  net = bytes_at told.held call.net

  -- under that of DELAYS
  abbrev delays : List ℕ
  delays = bytes_at told.held call.delays

  -- and under that of TESTS
  abbrev tests : List ℕ
  tests = bytes_at told.held call.tests

  -- NET, which has a circuit, DELAYS, which gives delays to its pins, and TESTS, which spells tests of it, are accepted where they are
  -- within their limits, and the lines change too often under no test's pair
  pub tests_are_accepted : (c : Circuit) (given : Delays) (listed : List Test) → length net ≤ INPUT_LIMIT → HasCircuit net c
      → length delays ≤ INPUT_LIMIT → HasDelays c delays given → length tests ≤ MOST_BYTES → SpellsTests c tests listed
      → HaveFewChanges c given listed → HasAcceptedInputs (replay_work call) (Some told)
  tests_are_accepted c given listed within has delays_within gives tests_within spells few = record {
    told = tt;
    inputs = three net delays tests;
    passed = inputs_pass (replay_command call) told call.net call.delays (tests_stages call) c given (three net delays tests) within has delays_within gives (
      tests,
      refl,
      (
        accepts_tests_size call net delays tests tests_within,
        (
          accepts_tests call net delays tests c has listed spells,
          (
            accepts_few call net delays tests c given listed (record { has = has; gives = gives; spells = spells }) few,
            refl,
          ),
        ),
      ),
    );
  }

-- what holds of a call of replay
pub replay_laws : (call : ReplayCall) (status : Status) (old new : Outside) → Ends (replay_work call) status old new
    → KeepsReplayLaws call status old new
replay_laws call status old new ends = record {
  complete = λ now can told none.
      completes (replay_work call) status old new ends
      (subst (HasAcceptedInputs (replay_work call)) (sym told)
      (tests_are_accepted call now can.circuit can.given can.listed can.net_within can.are.has can.delays_within can.are.gives can.tests_within
      can.are.spells can.few)) none;
  behind_gen = λ run left now was finds told none.
      let asked = asks_for was.words run was.asked in
      let P : RunCall → Type 0 = λ r. HasRunNumbers r in
      let Q : RunCall → Type 0 = λ r. HasNamesApart r in
      replay_answers run (subst P asked.1 asked.0.numbers) (subst Q asked.1 asked.0.names) left now was.left_by call finds status old new told
      ends none;
}
