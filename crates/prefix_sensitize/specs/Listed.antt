-- What is written of the first listed paths, in words that are spoken inside this crate alone (this project's own).
use Rattle.std.specs.Prelude.{◌≡◌, ℕ, ◌+◌, ◌*◌, ◌<◌, ◌≤◌, ◌^◌, List, [], ◌∷◌, length, map, All}
use Rattle.pd_base.specs.Route.{Route}
use Rattle.pd_base.specs.declared.fault.Direction.{Direction}
use Rattle.pd_base.specs.declared.fault.Direction.TheVariants.{Rise, Fall}
use Rattle.netlist.specs.Circuit.{Circuit}
use Rattle.netlist.specs.Paths.{IsPath, length_of}
use Rattle.netlist.specs.Waves.{Delays}
use Rattle.runs.specs.declared.run.ListedPath.{ListedPath}
use Rattle.runs.specs.declared.run.Run.{Run}
use Rattle.runs.specs.declared.run.Verdict.{Verdict}
use Rattle.runs.specs.Lawful.{AreNumbered, Named, named_with, none_named}
use Rattle.runs.specs.Verdicts.{verdicts_of}
use Rattle.good_runs.specs.Faults.{IsNumber, verdict_for}
use Rattle.prefix_sensitize.specs.declared.all_outcomes.AllOutcomes.{AllOutcomes}
use Rattle.prefix_sensitize.specs.declared.verdicts.Writer.{Writer}
use Rattle.prefix_sensitize.specs.Answers.{AreWritten, IsAnswered, IsBackedVerdict, IsWriterFor, Written, named_in, written_by}
use Rattle.logic_values.specs.Expected.{expecting}
use Rattle.prefix_sensitize.specs.Numbering.{AreCited}
use Rattle.prefix_sensitize.specs.Searches.{AreBothOutcomesFrom, AreSearches, Searches}

-- this is what these searches found
pub record AreAllOutcomes (c : Circuit) (searches : Searches) (outcomes : AllOutcomes) : Type 0 where
  pub are_searches : AreSearches c searches
  pub budget : outcomes.budget ≡ searches.budget
  pub proofs : outcomes.proofs.items ≡ searches.proofs
  pub rises : AreBothOutcomesFrom c searches.rules searches.routes searches.proofs Rise 0 outcomes.rises
  pub falls : AreBothOutcomesFrom c searches.rules searches.routes searches.proofs Fall 0 outcomes.falls

-- this path is the next one to be listed, and numbers are far from the greatest that the program counts to
pub record IsNextPath (c : Circuit) (searches : Searches) (path_number : ℕ) (path : Route) (writer : Writer) : Type 0 where
  pub are_searches : AreSearches c searches
  pub is_listed : IsNumber searches.routes path_number path
  pub is_path : IsPath c path
  pub is_writer : IsWriterFor c searches writer
  pub are_written : AreWritten c searches (written_by writer)
  pub few_tests : length writer.tests.items + 2 < 2 ^ 32
  pub few_proofs : length writer.numbering.cited + 4 < 2 ^ 32

-- the path is listed with its length, and with a verdict on its rising fault and then one on its falling fault
pub record IsPathAnswered (c : Circuit) (delays : Delays) (searches : Searches) (path_number : ℕ) (path : Route)
    (old new : Written) (listed : ListedPath) : Type 0 where
  pub of_path : listed.path ≡ path
  pub long : listed.length ≡ length_of delays path
  pub middle : Written
  pub rise : IsAnswered c searches path_number Rise path old middle listed.rise
  pub fall : IsAnswered c searches path_number Fall path middle new listed.fall

-- what is named with some more verdicts
abbrev pub named_after : Named → List Verdict → Named
named_after named [] = named
named_after named (verdict ∷ verdicts) = named_after (named_with named verdict) verdicts

-- The listed paths are these, with their lengths, and what is written answers all of their faults. The verdicts name the tests and
-- the proofs in their order, and all of them: at most a test and two proofs each.
pub record ArePathsAnswered (c : Circuit) (delays : Delays) (searches : Searches) (routes : List Route) (listed : List ListedPath)
    (written : Written) : Type 0 where
  pub are_routes : map (λ entry. entry.path) listed ≡ routes
  pub lengths : All (λ entry. entry.length ≡ length_of delays entry.path) listed
  pub are_written : AreWritten c searches written
  pub answers : (number : ℕ) (entry : ListedPath) (direction : Direction) → IsNumber listed number entry
      → IsBackedVerdict c searches written number direction entry.path (verdict_for entry direction)
  pub numbered : AreNumbered none_named (verdicts_of listed)
  pub named : named_after none_named (verdicts_of listed) ≡ named_in written
  pub few_tests : length written.tests ≤ 2 * length listed
  pub few_proofs : length written.cited ≤ 4 * length listed

-- the run, under the rules of the searches, lists these paths, and has the tests that were written, with the bits that they expect, and the cited proofs
pub record IsRunWith (c : Circuit) (searches : Searches) (listed : List ListedPath) (written : Written) (run : Run) : Type 0 where
  pub rules : run.rules ≡ searches.rules
  pub paths : run.paths ≡ listed
  pub tests : run.tests ≡ map (expecting c) written.tests
  pub proofs : AreCited written.cited searches.proofs run.proofs
