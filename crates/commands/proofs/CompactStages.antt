-- The stages of `compact` behind NET: what is passed up to its products, and how the call ends there.
use Rattle.std.proofs.Common.{◌≡◌, List, [], ◌∷◌, ◌++◌, codes, length, refl}
use Rattle.pd_base.specs.Memory.{out_of_memory}
use Rattle.pd_base.specs.declared.test.Test.{Test}
use Rattle.pd_io.specs.Seen.{FilesSeen}
use Rattle.netlist.specs.Circuit.{Circuit}
use Rattle.runs.specs.declared.run.ListedPath.{ListedPath}
use Rattle.test_grade.specs.Compacted.{IsCompacted}
use Rattle.test_grade.specs.Serving.{Serves}
use Rattle.command_line.specs.Words.{CompactCall}
use Rattle.calls.specs.declared.ending.Ending.{Ending}
use Rattle.calls.specs.declared.ending.Ending.TheVariants.{NoMemory}
use Rattle.calls.specs.Passing.{HasPassed}
use Rattle.calls.specs.Preparing.{IsPrepared}
use Rattle.calls.specs.Stopping.{Stops}
use Rattle.calls.specs.Work.{Products}
use Rattle.calls.proofs.Stages.{stops_for_memory}
use Rattle.commands.specs.Compact.{compact_command, compact_stages, compact_work, kept_line, out_due}
use Rattle.commands.specs.Grading.{CanBeGraded}
use Rattle.commands.specs.InputRequirements.{net_stages, tests_and_report_stages}
use Rattle.commands.specs.Inside.Grading.{FailsToBeGraded}
use Rattle.commands.specs.Inside.InputJudging.{GivesNet}
use Rattle.commands.specs.Inside.TestsAndPaths.{FailsToReadBoth, ReadsBoth}
use Rattle.commands.specs.SpelledRuns.{SpellTestsAndPaths}
use Rattle.commands.specs.declared.inputs.listed.TestsAndReport.{TestsAndReport}
use Rattle.commands.proofs.GradedStages.{graded_passed, not_graded}
use Rattle.commands.proofs.InputStages.{net_passed}
use Rattle.commands.proofs.ListedStages.{both_read, both_unread}

module _ (call : CompactCall) (c : Circuit) (old mid new : FilesSeen) (net : GivesNet call.net c old mid) where
  -- TESTS or REPORT was not read
  pub unread : (ending : Ending) → FailsToReadBoth call.tests call.report ending mid new → Stops (compact_work call) ending old new
  unread ending fails =
      both_unread (compact_command call) call.tests call.report (net_passed (compact_command call) call.net c old mid net) ending (_, refl) fails

  module _ (texts : TestsAndReport) (read : ReadsBoth call.tests call.report texts mid new) where
    -- both were read
    all_read : HasPassed (compact_work call) (net_stages call.net ++ tests_and_report_stages call.tests call.report)
        (net.text.items ∷ texts.tests.items ∷ texts.report.items ∷ []) old new
    all_read =
        both_read (compact_command call) call.tests call.report (net_passed (compact_command call) call.net c old mid net) texts read

    -- the tests can't be graded
    pub ungraded : (ending : Ending) → FailsToBeGraded (codes "compact") c texts.tests.items texts.report.items ending
        → Stops (compact_work call) ending old new
    ungraded ending fails =
        not_graded net.text.items c net.holds (compact_command call) texts.tests.items texts.report.items [] all_read ending ([], refl) fails

    module _ (listed : List Test) (paths : List ListedPath) (spell : SpellTestsAndPaths c texts.tests.items texts.report.items listed paths)
        (graded : CanBeGraded c listed paths) where
      -- they can
      all_passed : HasPassed (compact_work call) (compact_stages call) (net.text.items ∷ texts.tests.items ∷ texts.report.items ∷ []) old new
      all_passed =
          graded_passed net.text.items c net.holds (compact_command call) texts.tests.items texts.report.items [] all_read listed paths spell
          graded

      -- memory ran out behind them
      pub no_memory : Stops (compact_work call) (NoMemory out_of_memory) old new
      no_memory = stops_for_memory (compact_work call) all_passed ([], refl)

      -- tests were left out
      pub prepared : (kept : List Test) → IsCompacted (Serves c paths) listed kept → (products : Products)
          → products ≡ record { files = out_due call c kept ∷ []; out = kept_line (length kept) (length listed) }
          → IsPrepared (compact_work call) products old new
      prepared kept compacted products is = record {
        inputs = net.text.items ∷ texts.tests.items ∷ texts.report.items ∷ [];
        passed = all_passed;
        gives = record {
          circuit = c;
          listed = listed;
          paths = paths;
          are = record { has = net.holds; spell = spell; graded = graded };
          kept = kept;
          compacted = compacted;
          is = is;
        };
      }
