-- What was found of TESTS and REPORT together, as the functions say it that read and judge them (this project's own).
use Rattle.std.specs.Prelude.{ℕ, ◌≤◌, List, length, Vec}
use Rattle.std.specs.declared.alloc.Global.{Global}
use Rattle.pd_base.specs.declared.limits.TheConstants.{MOST_BYTES}
use Rattle.pd_base.specs.declared.test.Test.{Test}
use Rattle.pd_io.specs.Seen.{FilesSeen}
use Rattle.netlist.specs.Circuit.{Circuit}
use Rattle.calls.specs.declared.ending.Ending.{Ending}
use Rattle.calls.specs.declared.role.Role.TheVariants as role
use Rattle.commands.specs.Inside.InputJudging.{FailsReport, FailsTests, FailsWithin, ReadsWithin}
use Rattle.commands.specs.SpelledTests.{SpellsTests}
use Rattle.commands.specs.declared.inputs.listed.TestsAndReport.{TestsAndReport}

-- neither text has more bytes than are read
pub record AreBothWithin (texts : TestsAndReport) : Type 0 where
  pub tests : length texts.tests.items ≤ MOST_BYTES
  pub report : length texts.report.items ≤ MOST_BYTES

-- TESTS was read whole, within its limit, and then REPORT
pub record ReadsBoth (tests_name report_name : List ℕ) (texts : TestsAndReport) (old new : FilesSeen) : Type 0 where
  pub between : FilesSeen
  pub tests : ReadsWithin role.Tests tests_name texts.tests old between
  pub report : ReadsWithin role.Report report_name texts.report between new

-- one of them was not
pub data FailsToReadBoth (tests_name report_name : List ℕ) (ending : Ending) (old new : FilesSeen) : Type 0 where
  no_tests : FailsWithin role.Tests tests_name ending old new → FailsToReadBoth tests_name report_name ending old new
  no_report : (tests : Vec ℕ Global) (between : FilesSeen) → ReadsWithin role.Tests tests_name tests old between
      → FailsWithin role.Report report_name ending between new → FailsToReadBoth tests_name report_name ending old new

-- the texts do not both have their form: the first of them that lacks it is refused, as the command of this word says
pub data FailsToSpellBoth (command : List ℕ) (c : Circuit) (tests report : List ℕ) (ending : Ending) : Type 0 where
  no_form_of_tests : FailsTests command c tests ending → FailsToSpellBoth command c tests report ending
  no_form_of_report : (listed : List Test) → SpellsTests c tests listed → FailsReport command c report ending
      → FailsToSpellBoth command c tests report ending
