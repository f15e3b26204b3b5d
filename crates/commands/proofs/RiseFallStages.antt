-- The stages of `rfreplay` behind NET and DELAYS: what is passed up to its text, and how the call ends there.
use Rattle.std.proofs.Common.{◌≡◌, ℕ, true, List, [], ◌∷◌, ◌++◌, codes, Result, Ok, Err, IfOk, IfErr, refl, sym, subst}
use Rattle.std.specs.Prelude.{Vec}
use Rattle.std.specs.declared.alloc.Global.{Global}
use Rattle.pd_base.specs.declared.test.Test.{Test}
use Rattle.pd_io.specs.Seen.{FilesSeen}
use Rattle.netlist.specs.Circuit.{Circuit}
use Rattle.netlist.specs.Names.{name_at}
use Rattle.bench_reader.specs.Circuits.{HasCircuit}
use Rattle.bench_reader.proofs.LawfulCircuits.{is_circuit}
use Rattle.delay_annotation.specs.DelayFile.{HasRiseFall}
use Rattle.delay_annotation.specs.declared.setting.Columns.TheVariants.{RiseAndFall}
use Rattle.rise_fall.specs.Waves.{RiseFallDelays}
use Rattle.runs.specs.declared.run.ListedPath.{ListedPath}
use Rattle.command_line.specs.Words.{RiseFallReplayCall}
use Rattle.calls.specs.declared.ending.Ending.{Ending}
use Rattle.calls.specs.Passing.{HasPassed}
use Rattle.calls.specs.Preparing.{IsPrepared, Prepares}
use Rattle.calls.specs.Stopping.{Stops}
use Rattle.calls.specs.Work.{Stage}
use Rattle.calls.proofs.Stages.{then_required, stops_refused, stops_for_memory}
use Rattle.commands.specs.InputRequirements.{Requirement, delays_stages, own, tests_and_report_stages}
use Rattle.pd_base.specs.declared.fault.Direction.TheVariants.{Rise}
use Rattle.commands.specs.Inside.InputJudging.{GivesNet, GivesRiseFall}
use Rattle.commands.proofs.InputStages.{columns_passed}
use Rattle.commands.specs.Inside.ReplayEndings.{FailsReplayOf}
use Rattle.commands.specs.Inside.ReplayEndings as endings
use Rattle.commands.specs.Inside.TestsAndPaths.{FailsToReadBoth, FailsToSpellBoth, ReadsBoth}
use Rattle.commands.specs.Printed.{printed_text}
use Rattle.commands.specs.Replay.{FewChanges, ReplayRequirement}
use Rattle.commands.specs.RiseFallReplay.{AreReadAs, FourTexts, RiseFallInputs, rise_fall_front, rise_fall_replay_command, rise_fall_replay_work, sampling_at, waves_under}
use Rattle.commands.specs.RiseFallReplayText.{IsRiseFallText, RiseFallSampling}
use Rattle.commands.specs.SpelledRuns.{SpellTestsAndPaths}
use Rattle.commands.specs.TestChanges.{HaveFewOf, changes_too_often}
use Rattle.commands.specs.declared.inputs.listed.TestsAndReport.{TestsAndReport}
use Rattle.commands.proofs.ListedStages.{both_formed, both_malformed, both_read, both_unread}
use Rattle.commands.proofs.RiseFallAccepting.{accepts_few, four}
use Rattle.commands.proofs.RiseFallTexts.{keeps_late_promises}

-- NET and DELAYS were read and judged
pub both_passed : (call : RiseFallReplayCall) (c : Circuit) (old mid new : FilesSeen) (net : GivesNet call.net c old mid) (given : RiseFallDelays)
    (delays : GivesRiseFall call.delays c given mid new)
    → HasPassed (rise_fall_replay_work call) (delays_stages RiseAndFall call.net call.delays) (net.text.items ∷ delays.text.items ∷ []) old new
both_passed call c old mid new net given delays =
    columns_passed (rise_fall_replay_command call) RiseAndFall call.net call.delays c old mid new net (λ text. HasRiseFall c text given) Rise
    (λ pin. given pin true) (λ text has. has.0) delays

module _ (call : RiseFallReplayCall) (net delays : List ℕ) (old mid : FilesSeen)
    (before : HasPassed (rise_fall_replay_work call) (delays_stages RiseAndFall call.net call.delays) (net ∷ delays ∷ []) old mid) where
  -- TESTS or REPORT was not read
  pub listed_unread : (new : FilesSeen) (ending : Ending) → FailsToReadBoth call.tests call.report ending mid new
      → Stops (rise_fall_replay_work call) ending old new
  listed_unread new ending fails = both_unread (rise_fall_replay_command call) call.tests call.report before ending (_, refl) fails

  module _ (new : FilesSeen) (both : TestsAndReport) (reads : ReadsBoth call.tests call.report both mid new) (c : Circuit)
      (has : HasCircuit net c) where
    -- the bytes that were read
    abbrev texts : FourTexts
    texts = record { net = net; delays = delays; tests = both.tests.items; report = both.report.items }

    -- the stages up to both files
    abbrev stages_read : List (Stage (Requirement ReplayRequirement))
    stages_read = delays_stages RiseAndFall call.net call.delays ++ tests_and_report_stages call.tests call.report

    were_read : HasPassed (rise_fall_replay_work call) stages_read (four texts) old new
    were_read = both_read (rise_fall_replay_command call) call.tests call.report before both reads

    -- one of them has not its form
    pub listed_malformed : (ending : Ending) → FailsToSpellBoth (codes "rfreplay") c both.tests.items both.report.items ending
        → Stops (rise_fall_replay_work call) ending old new
    listed_malformed ending fails =
        both_malformed (rise_fall_replay_command call) net (delays ∷ both.tests.items ∷ both.report.items ∷ []) c has 2 both.tests.items
        both.report.items refl refl were_read ending (_, refl) fails

    module _ (given : RiseFallDelays) (gives : HasRiseFall c delays given) (listed : List Test) (paths : List ListedPath)
        (spell : SpellTestsAndPaths c both.tests.items both.report.items listed paths) where
      -- what the inputs are read as
      abbrev read : RiseFallInputs
      read = record { circuit = c; delays = given; tests = listed; paths = paths }

      are : AreReadAs texts read
      are = record { has = has; gives = gives; spell = spell }

      -- all but the last stage are passed
      front_passed : HasPassed (rise_fall_replay_work call) (rise_fall_front call) (four texts) old new
      front_passed =
          both_formed (rise_fall_replay_command call) net (delays ∷ both.tests.items ∷ both.report.items ∷ []) c has 2 both.tests.items
          both.report.items refl refl were_read listed paths spell

      -- there is no text
      text_fails : (ending : Ending) → FailsReplayOf c (waves_under read) listed ending → Stops (rise_fall_replay_work call) ending old new
      text_fails ending (endings.over number line is first) =
          subst (λ (e : Ending). Stops (rise_fall_replay_work call) e old new) (sym is)
          (stops_refused (rise_fall_replay_work call) (own FewChanges) (changes_too_often number (name_at c line)) front_passed ([], refl)
          (record { read = read; are = are; number = number; line = line; first = first; is = refl }))
      text_fails ending (endings.lacks_memory is) =
          subst (λ (e : Ending). Stops (rise_fall_replay_work call) e old new) (sym is)
          (stops_for_memory (rise_fall_replay_work call) front_passed (_, refl))

      -- the text was made
      made : (text : Vec ℕ Global) → IsRiseFallText (sampling_at call.time read) listed text.items → HaveFewOf c (waves_under read) listed
          → IsPrepared (rise_fall_replay_work call) (printed_text text) old new
      made text is few = record {
        inputs = four texts;
        passed = then_required (rise_fall_replay_work call) (own FewChanges) front_passed (accepts_few texts read are few call);
        gives = record {
          read = read;
          are = are;
          few = few;
          text = is;
          promises = λ k d within.
              keeps_late_promises (sampling_at call.time read) (is_circuit net c has) _ (is.words k d within);
          no_file = refl;
        };
      }

      -- with what the tests are replayed, where these paths are lent
      abbrev lending : List ListedPath → RiseFallSampling
      lending lent_paths = record { circuit = c; delays = given; paths = lent_paths; time = call.time }

      -- the text was made of the tests and paths that are lent, or there is none
      pub rise_fall_text_prepared : (lent : List Test) → lent ≡ listed → (lent_paths : List ListedPath) → lent_paths ≡ paths
          → (result : Result (Vec ℕ Global) Ending) → IfOk result (λ text. IsRiseFallText (lending lent_paths) lent text.items)
          → IfOk result (λ text. HaveFewOf c (waves_under read) lent) → IfErr result (FailsReplayOf c (waves_under read) lent)
          → Prepares printed_text (rise_fall_replay_work call) result old new
      rise_fall_text_prepared lent is lent_paths are_paths (Ok text) told few fails =
          made text
          (subst (λ (some : List ListedPath). IsRiseFallText (lending some) listed text.items) are_paths
          (subst (λ (some : List Test). IsRiseFallText (lending lent_paths) some text.items) is told))
          (subst (HaveFewOf c (waves_under read)) is few)
      rise_fall_text_prepared lent is lent_paths are_paths (Err ending) told few fails =
          text_fails ending (subst (λ (some : List Test). FailsReplayOf c (waves_under read) some ending) is fails)
