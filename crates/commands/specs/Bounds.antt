-- The command `bounds`: its stages, what it refuses, and what it gives. Where a call ends with status 0, out has a line for each fault of
-- REPORT: the least time of a row of LOG by which a test passed that covers the fault, or a dash where there is no such row; and under all
-- delays that agree with LOG the path is no longer than the time that is printed (this project's own).
use Rattle.std.specs.Prelude.{◌≡◌, ℕ, List, [], ◌∷◌, ◌++◌, length, codes, decimal, Option}
use Rattle.pd_base.specs.declared.test.Test.{Test}
use Rattle.netlist.specs.Circuit.{Circuit}
use Rattle.bench_reader.specs.Circuits.{HasCircuit}
use Rattle.runs.specs.declared.run.ListedPath.{ListedPath}
use Rattle.delay_bounds.specs.Bounds.{AreBounds}
use Rattle.delay_bounds.specs.LogFile.{IsLog, RefusesLog}
use Rattle.delay_bounds.specs.declared.log_fault.LogFault.{LogFault}
use Rattle.delay_bounds.specs.declared.log_fault.LogFault.TheVariants as log
use Rattle.delay_bounds.specs.declared.log_row.LogRow.{LogRow}
use Rattle.command_line.specs.Words.{BoundsCall}
use Rattle.calls.specs.CauseAndText.{refusal_for}
use Rattle.calls.specs.declared.cause.Cause.TheVariants as cause
use Rattle.calls.specs.declared.ending.Ending.{Ending}
use Rattle.calls.specs.declared.ending.Ending.TheVariants.{Refused, NoMemory}
use Rattle.calls.specs.declared.role.Role.TheVariants as role
use Rattle.calls.specs.declared.refusal.Refusal.{Refusal}
use Rattle.calls.specs.Work.{Work, Stage, Require, Products}
use Rattle.commands.specs.BoundsText.{bounds_text}
use Rattle.commands.specs.Grading.{AreGradable}
use Rattle.commands.specs.InputRequirements.{InputCommand, Requirement, graded_stages, net_stages, own, read_stages, tests_and_report_stages, work_on_inputs}
use Rattle.commands.specs.SpelledTests.{SpellsTests}

-- what bounds requires beside what is required alike
pub data BoundsRequirement : Type 0 where
  -- LOG is a log of the tests of TESTS
  SpellsLog : BoundsRequirement

-- NET is read and judged; then TESTS, REPORT and LOG are read
abbrev pub bounds_reads : BoundsCall → List (Stage (Requirement BoundsRequirement))
bounds_reads call = net_stages call.net ++ tests_and_report_stages call.tests call.report ++ read_stages role.Log call.log

-- only then TESTS and REPORT have to have their form and be such that the tests can be graded, and LOG has to be a log of them
abbrev pub bounds_stages : BoundsCall → List (Stage (Requirement BoundsRequirement))
bounds_stages call = bounds_reads call ++ graded_stages ++ Require (own SpellsLog) ∷ []

-- a row of LOG, and what is wrong there
abbrev pub wrong_row : ℕ → List ℕ → Ending
wrong_row row reason = Refused (refusal_for cause.Log (codes "log: row " ++ decimal row ++ reason))

-- how a call ends for which LOG is no log
abbrev pub log_ending : LogFault → Ending
log_ending log.Header = Refused (refusal_for cause.Log (codes "log: header"))
log_ending (log.Fields row) = wrong_row row (codes " fields")
log_ending (log.NoTest row) = wrong_row row (codes " test")
log_ending (log.BadTime row) = wrong_row row (codes " time")
log_ending (log.BadResult row) = wrong_row row (codes " result")
log_ending (log.NoMemory refused) = NoMemory refused

-- the text is no log of so many tests, and is refused so
pub record HasNoLogFor (tests : ℕ) (text : List ℕ) (refusal : Refusal) : Type 0 where
  pub fault : LogFault
  pub refused : RefusesLog tests text fault
  pub is : log_ending fault ≡ Refused refusal

-- NET has a circuit, of which TESTS spells tests, of which LOG is no log
pub record HasNoLog (net tests text : List ℕ) (refusal : Refusal) : Type 0 where
  pub circuit : Circuit
  pub has : HasCircuit net circuit
  pub listed : List Test
  pub spells : SpellsTests circuit tests listed
  pub none : HasNoLogFor (length listed) text refusal

-- what bounds refuses by a requirement of its own
abbrev pub RefusesLogs : BoundsRequirement → List (List ℕ) → Refusal → Type 0
RefusesLogs SpellsLog (net ∷ tests ∷ report ∷ text ∷ []) refusal = HasNoLog net tests text refusal
RefusesLogs SpellsLog inputs refusal = ⊥

-- on out a line for each fault, and no file
pub record GivesBoundsOf (net tests report text : List ℕ) (products : Products) : Type 0 where
  pub circuit : Circuit
  pub listed : List Test
  pub paths : List ListedPath
  pub are : AreGradable net tests report circuit listed paths
  pub rows : List LogRow
  pub is_log : IsLog (length listed) text rows
  pub bounds : List (Option ℕ)
  pub are_bounds : AreBounds circuit listed rows paths bounds
  pub is : products ≡ record { files = []; out = bounds_text paths bounds }

-- what bounds gives for its four inputs
abbrev pub GivesBounds : BoundsCall → List (List ℕ) → Products → Type 0
GivesBounds call (net ∷ tests ∷ report ∷ text ∷ []) products = GivesBoundsOf net tests report text products
GivesBounds call inputs products = ⊥

-- the command with its names
abbrev pub bounds_command : BoundsCall → InputCommand
bounds_command call = record {
  Own = BoundsRequirement;
  word = codes "bounds";
  stages = bounds_stages call;
  RefusesOwn = RefusesLogs;
  Gives = GivesBounds call;
}

-- its work
abbrev pub bounds_work : BoundsCall → Work
bounds_work call = work_on_inputs (bounds_command call)
