-- The command `compact`: its stages, what it refuses, and what it gives. Where a call ends with status 0, OUT holds the text of tests of
-- TESTS, numbered anew from 1, from which none can be left out: each fault that a test of TESTS serves is served by one of them, and each
-- of them serves a fault that no other of them does (static compaction of a test set).
use Rattle.std.specs.Prelude.{◌≡◌, ℕ, List, [], ◌∷◌, ◌++◌, length, codes, decimal}
use Rattle.pd_base.specs.declared.test.Test.{Test}
use Rattle.netlist.specs.Circuit.{Circuit}
use Rattle.runs.specs.declared.run.ListedPath.{ListedPath}
use Rattle.test_grade.specs.Compacted.{IsCompacted}
use Rattle.test_grade.specs.Serving.{Serves}
use Rattle.text_pieces.specs.Tokens.{line}
use Rattle.run_files.specs.TestsText.{tests_text}
use Rattle.command_line.specs.Words.{CompactCall}
use Rattle.calls.specs.declared.role.Role.TheVariants as role
use Rattle.calls.specs.Work.{Work, Stage, Due, due_file, Products}
use Rattle.commands.specs.Grading.{AreGradable}
use Rattle.commands.specs.InputRequirements.{InputCommand, RefusesNoMore, Requirement, graded_stages, net_stages, tests_and_report_stages, work_on_inputs}
use Rattle.commands.specs.declared.compact.preparing.Kept.{Kept}

-- NET is read and judged; then TESTS and REPORT are read, and have to have their form and be such that the tests can be graded
abbrev pub compact_stages : CompactCall → List (Stage (Requirement ⊥))
compact_stages call = net_stages call.net ++ tests_and_report_stages call.tests call.report ++ graded_stages

-- so many tests are kept of so many
abbrev pub kept_line : ℕ → ℕ → List ℕ
kept_line kept all = line (codes "kept " ++ decimal kept ++ codes " of " ++ decimal all)

-- the file that is written for tests that are kept
abbrev pub out_due : CompactCall → Circuit → List Test → Due
out_due call c kept = due_file role.Out call.out (tests_text c kept)

-- OUT holds the tests that are kept of those of TESTS, and out says how many
pub record GivesKept (call : CompactCall) (net tests report : List ℕ) (products : Products) : Type 0 where
  pub circuit : Circuit
  pub listed : List Test
  pub paths : List ListedPath
  pub are : AreGradable net tests report circuit listed paths
  pub kept : List Test
  pub compacted : IsCompacted (Serves circuit paths) listed kept
  pub is : products ≡ record { files = out_due call circuit kept ∷ []; out = kept_line (length kept) (length listed) }

-- what compact gives for its three inputs
abbrev pub GivesCompact : CompactCall → List (List ℕ) → Products → Type 0
GivesCompact call (net ∷ tests ∷ report ∷ []) products = GivesKept call net tests report products
GivesCompact call inputs products = ⊥

-- the command with its names
abbrev pub compact_command : CompactCall → InputCommand
compact_command call = record {
  Own = ⊥;
  word = codes "compact";
  stages = compact_stages call;
  RefusesOwn = RefusesNoMore;
  Gives = GivesCompact call;
}

-- its work
abbrev pub compact_work : CompactCall → Work
compact_work call = work_on_inputs (compact_command call)

-- the products that are written for what a call made
abbrev pub kept_products : CompactCall → Kept → Products
kept_products call made = record { files = out_due call made.net made.tests.items ∷ []; out = made.line.items }
