-- The stages of `replay` behind NET and DELAYS: what is passed up to its text, and how the call ends there.
use Rattle.std.proofs.Common.{◌≡◌, ℕ, List, [], ◌∷◌, ◌++◌, codes, Result, Ok, Err, IfOk, IfErr, ℤ, refl, sym, ap, ap₂, subst, ◌∙◌}
use Rattle.std.specs.Prelude.{pos, Vec}
use Rattle.std.specs.declared.alloc.Global.{Global}
use Rattle.pd_base.specs.declared.test.Test.{Test}
use Rattle.pd_io.specs.Seen.{FilesSeen}
use Rattle.netlist.specs.Circuit.{Circuit}
use Rattle.netlist.specs.Names.{name_at}
use Rattle.netlist.specs.Waves.{Delays}
use Rattle.bench_reader.specs.Circuits.{HasCircuit}
use Rattle.delay_annotation.specs.DelayFile.{HasDelays}
use Rattle.command_line.specs.Words.{ReplayCall}
use Rattle.calls.specs.declared.role.Role.TheVariants as role
use Rattle.calls.specs.declared.ending.Ending.{Ending}
use Rattle.calls.specs.Work.{Stage, Require, Products}
use Rattle.calls.specs.Passing.{HasPassed}
use Rattle.calls.specs.Stopping.{Stops}
use Rattle.calls.specs.Preparing.{IsPrepared, Prepares}
use Rattle.calls.proofs.Stages.{then_required, stops_refused, stops_for_memory}
use Rattle.commands.specs.InputRequirements.{LacksForm, Requirement, WellFormed, input_stages, own, read_stages}
use Rattle.commands.specs.Inside.InputJudging.{FailsToGiveTests, GivesTests, ReadsWithin}
use Rattle.commands.specs.Inside.InputJudging as judging
use Rattle.commands.specs.SpelledTests.{IsMalformedTests}
use Rattle.commands.proofs.StageReads.{stops_judged, stops_unwhole, then_whole}
use Rattle.commands.specs.Inside.ReplayEndings.{FailsReplay}
use Rattle.commands.specs.Inside.ReplayEndings as endings
use Rattle.commands.specs.ReplayText.{replay_text}
use Rattle.commands.specs.TestChanges.{HaveFewChanges, changes_too_often}
use Rattle.commands.specs.Printed.{printed_text}
use Rattle.commands.specs.Replay.{AreReplayed, FewChanges, ReplayRequirement, replay_command, replay_work}
use Rattle.commands.proofs.ReplayAccepting.{accepts_tests, accepts_few, three}

module _ (call : ReplayCall) (net delays : List ℕ) (old mid new : FilesSeen)
    (before : HasPassed (replay_work call) (input_stages call.net call.delays) (net ∷ delays ∷ []) old mid) (c : Circuit)
    (has : HasCircuit net c) where
  -- the stages up to the size of TESTS
  abbrev reads : List (Stage (Requirement ReplayRequirement))
  reads = input_stages call.net call.delays ++ read_stages role.Tests call.tests

  -- TESTS was read, within its limit
  tests_within : (tests : Vec ℕ Global) → ReadsWithin role.Tests call.tests tests mid new
      → HasPassed (replay_work call) reads (three net delays tests.items) old new
  tests_within tests read = then_whole (replay_command call) role.Tests call.tests tests before read

  -- TESTS gives no tests
  pub tests_fail : (ending : Ending) → FailsToGiveTests (codes "replay") call.tests c ending mid new → Stops (replay_work call) ending old new
  tests_fail ending (judging.not_read fails) =
      stops_unwhole (replay_command call) role.Tests call.tests ending before (_, refl) fails
  tests_fail ending (judging.gives_none tests read fails) =
      stops_judged (replay_command call) (WellFormed role.Tests 2) (LacksForm (codes "replay") role.Tests (IsMalformedTests c tests.items)) ending
      (tests_within tests read) (_, refl)
      (λ refusal lacks. record {
        place = lacks.place;
        first = record { circuit = c; has = has; malformed = lacks.first };
        is = lacks.is;
      }) fails

  module _ (given : Delays) (gives : HasDelays c delays given) (listed : List Test) (tests : GivesTests call.tests c listed mid new) where
    -- the circuit, the delays and the tests
    are : AreReplayed net delays tests.text.items c given listed
    are = record { has = has; gives = gives; spells = tests.holds }

    -- tests were required
    tests_passed : HasPassed (replay_work call) (reads ++ Require (WellFormed role.Tests 2) ∷ []) (three net delays tests.text.items) old new
    tests_passed =
        then_required (replay_work call) (WellFormed role.Tests 2) (tests_within tests.text tests.read)
        (accepts_tests call net delays tests.text.items c has listed tests.holds)

    -- there is no text
    pub text_fails : (ending : Ending) → FailsReplay c given listed ending → Stops (replay_work call) ending old new
    text_fails ending (endings.over number line is first) =
        subst (λ (e : Ending). Stops (replay_work call) e old new) (sym is)
        (stops_refused (replay_work call) (own FewChanges) (changes_too_often number (name_at c line)) tests_passed ([], refl) (record {
          circuit = c;
          given = given;
          listed = listed;
          are = are;
          number = number;
          line = line;
          first = first;
          is = refl;
        }))
    text_fails ending (endings.lacks_memory is) =
        subst (λ (e : Ending). Stops (replay_work call) e old new) (sym is)
        (stops_for_memory (replay_work call) tests_passed (_, refl))

    -- the text was made
    pub prepared_text : HaveFewChanges c given listed → (products : Products)
        → products ≡ record { files = []; out = replay_text c given listed (pos call.time) } → IsPrepared (replay_work call) products old new
    prepared_text few products text = record {
      inputs = three net delays tests.text.items;
      passed = then_required (replay_work call) (own FewChanges) tests_passed
          (accepts_few call net delays tests.text.items c given listed are few);
      gives = record { circuit = c; given = given; listed = listed; are = are; few = few; text = text };
    }

    -- the text was made of the tests that are lent, or there is none
    pub text_prepared : (lent : List Test) → lent ≡ listed → (time : ℤ) → time ≡ pos call.time → (result : Result (Vec ℕ Global) Ending)
        → IfOk result (λ text. text.items ≡ replay_text c given lent time) → IfOk result (λ text. HaveFewChanges c given lent)
        → IfErr result (FailsReplay c given lent) → Prepares printed_text (replay_work call) result old new
    text_prepared lent is time at (Ok text) told few fails =
        prepared_text (subst (HaveFewChanges c given) is few) (printed_text text)
        (ap (λ (out : List ℕ). record { files = []; out = out }) (told ∙ ap₂ (replay_text c given) is at))
    text_prepared lent is time at (Err ending) told few fails =
        text_fails ending (subst (λ (l : List Test). FailsReplay c given l ending) is fails)
