-- The stages of `bounds` behind NET: what is passed up to its text, and how the call ends there.
use Rattle.std.proofs.Common.{◌≡◌, ℕ, List, [], ◌∷◌, ◌++◌, codes, length, refl, sym, ap, subst, ◌∙◌}
use Rattle.std.specs.Prelude.{Vec}
use Rattle.std.specs.declared.alloc.Global.{Global}
use Rattle.pd_base.specs.Memory.{out_of_memory}
use Rattle.pd_base.specs.declared.test.Test.{Test}
use Rattle.pd_io.specs.Seen.{FilesSeen}
use Rattle.netlist.specs.Circuit.{Circuit}
use Rattle.bench_reader.specs.Circuits.{HasCircuit}
use Rattle.bench_reader.proofs.Answering.{one_circuit}
use Rattle.runs.specs.declared.run.ListedPath.{ListedPath}
use Rattle.delay_bounds.specs.LogFile.{IsLog, RefusesLog}
use Rattle.delay_bounds.specs.declared.log_fault.LogFault.{LogFault}
use Rattle.delay_bounds.specs.declared.log_fault.LogFault.TheVariants as log
use Rattle.delay_bounds.specs.declared.log_row.LogRow.{LogRow}
use Rattle.delay_bounds.proofs.LogLaws.{log_not_refused}
use Rattle.command_line.specs.Words.{BoundsCall}
use Rattle.calls.specs.declared.ending.Ending.{Ending}
use Rattle.calls.specs.declared.ending.Ending.TheVariants.{NoMemory, Refused}
use Rattle.calls.specs.declared.refusal.Refusal.{Refusal}
use Rattle.calls.specs.declared.role.Role.TheVariants as role
use Rattle.calls.specs.Passing.{Accepts, HasPassed}
use Rattle.calls.specs.Preparing.{IsPrepared}
use Rattle.calls.specs.Stopping.{Stops}
use Rattle.calls.specs.Work.{Stage}
use Rattle.calls.proofs.Stages.{stops_for_memory, then_required}
use Rattle.commands.specs.Bounds.{BoundsRequirement, HasNoLogFor, SpellsLog, bounds_command, bounds_reads, bounds_stages, bounds_work, log_ending}
use Rattle.commands.specs.Grading.{CanBeGraded}
use Rattle.commands.specs.InputRequirements.{Requirement, graded_stages, net_stages, own, tests_and_report_stages}
use Rattle.commands.specs.Inside.BoundsJudging.{FailsLog, TellsBounds}
use Rattle.commands.specs.Inside.Grading.{FailsToBeGraded}
use Rattle.commands.specs.Inside.InputJudging.{FailsWithin, GivesNet, ReadsWithin}
use Rattle.commands.specs.Inside.InputJudging as judging
use Rattle.commands.specs.Inside.TestsAndPaths.{FailsToReadBoth, ReadsBoth}
use Rattle.commands.specs.SpelledRuns.{SpellTestsAndPaths}
use Rattle.commands.specs.SpelledTests.{SpellsTests}
use Rattle.commands.specs.declared.inputs.listed.TestsAndReport.{TestsAndReport}
use Rattle.commands.proofs.GradedStages.{graded_passed, not_graded, same_tests}
use Rattle.commands.proofs.InputStages.{net_passed}
use Rattle.commands.proofs.ListedStages.{both_read, both_unread}
use Rattle.commands.proofs.StageReads.{stops_judged, stops_unwhole, then_whole}

-- a fault of a log ends the call so
pub log_judged : (tests : ℕ) (text : List ℕ) (fault : LogFault) → RefusesLog tests text fault → FailsLog tests text (log_ending fault)
log_judged tests text log.Header refuses = judging.refused _ refl (record { fault = log.Header; refused = refuses; is = refl })
log_judged tests text (log.Fields row) refuses = judging.refused _ refl (record { fault = log.Fields row; refused = refuses; is = refl })
log_judged tests text (log.NoTest row) refuses = judging.refused _ refl (record { fault = log.NoTest row; refused = refuses; is = refl })
log_judged tests text (log.BadTime row) refuses = judging.refused _ refl (record { fault = log.BadTime row; refused = refuses; is = refl })
log_judged tests text (log.BadResult row) refuses =
    judging.refused _ refl (record { fault = log.BadResult row; refused = refuses; is = refl })
log_judged tests text (log.NoMemory _) refuses = judging.no_memory refl

-- want of memory is no refusal
memory_is_no_refusal : (fault : LogFault) (refusal : Refusal) → fault ≡ log.NoMemory out_of_memory → ¬ (log_ending fault ≡ Refused refusal)
memory_is_no_refusal fault refusal none is =
    let never : NoMemory out_of_memory ≡ Refused refusal = sym (ap log_ending none) ∙ is in absurd cc

-- a log is not refused
is_no_fault : (tests : ℕ) (text : List ℕ) (rows : List LogRow) (refusal : Refusal) → IsLog tests text rows → ¬ HasNoLogFor tests text refusal
is_no_fault tests text rows refusal is_log none =
    memory_is_no_refusal none.fault refusal (log_not_refused tests text rows none.fault is_log none.refused) none.is

-- a log of the tests of TESTS is accepted
pub accepts_log : (call : BoundsCall) (net tests report text : List ℕ) (c : Circuit) → HasCircuit net c → (listed : List Test)
    → SpellsTests c tests listed → (rows : List LogRow) → IsLog (length listed) text rows
    → Accepts (bounds_work call) (own SpellsLog) (net ∷ tests ∷ report ∷ text ∷ [])
accepts_log call net tests report text c has listed spells rows is_log refusal it =
    let P : Circuit → Type 0 = λ d. SpellsTests d tests it.listed in
    let here : P c = subst P (one_circuit net it.circuit c it.has has) it.spells in
    is_no_fault (length listed) text rows refusal is_log
    (subst (λ (l : List Test). HasNoLogFor (length l) text refusal) (same_tests c tests it.listed listed here spells) it.none)

module _ (call : BoundsCall) (c : Circuit) (old mid new : FilesSeen) (net : GivesNet call.net c old mid) where
  -- TESTS or REPORT was not read
  pub unread : (ending : Ending) → FailsToReadBoth call.tests call.report ending mid new → Stops (bounds_work call) ending old new
  unread ending fails =
      both_unread (bounds_command call) call.tests call.report (net_passed (bounds_command call) call.net c old mid net) ending (_, refl) fails

  module _ (texts : TestsAndReport) (read : ReadsBoth call.tests call.report texts mid new) (last : FilesSeen) where
    -- the stages up to REPORT
    abbrev before_log : List (Stage (Requirement BoundsRequirement))
    before_log = net_stages call.net ++ tests_and_report_stages call.tests call.report

    both : HasPassed (bounds_work call) before_log (net.text.items ∷ texts.tests.items ∷ texts.report.items ∷ []) old new
    both = both_read (bounds_command call) call.tests call.report (net_passed (bounds_command call) call.net c old mid net) texts read

    -- LOG was not read
    pub log_unread : (ending : Ending) → FailsWithin role.Log call.log ending new last → Stops (bounds_work call) ending old last
    log_unread ending fails = stops_unwhole (bounds_command call) role.Log call.log ending both (_, refl) fails

    module _ (text : Vec ℕ Global) (log_read : ReadsWithin role.Log call.log text new last) where
      -- the inputs
      abbrev four : List (List ℕ)
      four = net.text.items ∷ texts.tests.items ∷ texts.report.items ∷ text.items ∷ []

      all_read : HasPassed (bounds_work call) (bounds_reads call) four old last
      all_read = then_whole (bounds_command call) role.Log call.log text both log_read

      -- the tests can't be graded
      pub ungraded : (ending : Ending) → FailsToBeGraded (codes "bounds") c texts.tests.items texts.report.items ending
          → Stops (bounds_work call) ending old last
      ungraded ending fails =
          not_graded net.text.items c net.holds (bounds_command call) texts.tests.items texts.report.items (text.items ∷ []) all_read ending
          (_, refl) fails

      module _ (listed : List Test) (paths : List ListedPath) (spell : SpellTestsAndPaths c texts.tests.items texts.report.items listed paths)
          (graded : CanBeGraded c listed paths) where
        -- they can
        can_be_graded : HasPassed (bounds_work call) (bounds_reads call ++ graded_stages) four old last
        can_be_graded =
            graded_passed net.text.items c net.holds (bounds_command call) texts.tests.items texts.report.items (text.items ∷ []) all_read
            listed paths spell graded

        -- LOG is no log of them
        pub no_log : (ending : Ending) → FailsLog (length listed) text.items ending → Stops (bounds_work call) ending old last
        no_log ending fails =
            stops_judged (bounds_command call) (own SpellsLog) (HasNoLogFor (length listed) text.items) ending can_be_graded ([], refl)
            (λ refusal why. record { circuit = c; has = net.holds; listed = listed; spells = spell.tests_are; none = why }) fails

        module _ (rows : List LogRow) (is_log : IsLog (length listed) text.items rows) where
          -- it is one
          all_passed : HasPassed (bounds_work call) (bounds_stages call) four old last
          all_passed =
              then_required (bounds_work call) (own SpellsLog) can_be_graded
              (accepts_log call net.text.items texts.tests.items texts.report.items text.items c net.holds listed spell.tests_are rows is_log)

          -- memory ran out behind them
          pub no_memory : Stops (bounds_work call) (NoMemory out_of_memory) old last
          no_memory = stops_for_memory (bounds_work call) all_passed ([], refl)

          -- the text was made
          pub prepared : (out : List ℕ) → TellsBounds c listed paths rows out
              → IsPrepared (bounds_work call) (record { files = []; out = out }) old last
          prepared out tells = record {
            inputs = four;
            passed = all_passed;
            gives = record {
              circuit = c;
              listed = listed;
              paths = paths;
              are = record { has = net.holds; spell = spell; graded = graded };
              rows = rows;
              is_log = is_log;
              bounds = tells.bounds;
              are_bounds = tells.are_bounds;
              is = ap (λ (text : List ℕ). record { files = []; out = text }) tells.is;
            };
          }
