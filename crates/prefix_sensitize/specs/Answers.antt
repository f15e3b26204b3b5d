-- What a verdict asks of what is written so far, and what stays of it as more is written, in words that are spoken inside this crate
-- alone (this project's own).
use Rattle.std.specs.Prelude.{◌≡◌, ℕ, ◌+◌, ◌<◌, ◌≤◌, ◌^◌, true, false, List, [], ◌∷◌, ◌++◌, length, slice_get, Some, All}
use Rattle.netlist.specs.LinkedPairs.{IsOfRules}
use Rattle.pd_base.specs.Pair.{Vectors}
use Rattle.pd_base.specs.Route.{Route}
use Rattle.pd_base.specs.Target.{Target, target_of}
use Rattle.pd_base.specs.declared.test.Test.{Test}
use Rattle.pd_base.specs.declared.fault.Direction.{Direction}
use Rattle.pd_base.specs.declared.fault.Kind.{Kind}
use Rattle.pd_base.specs.declared.fault.Kind.TheVariants as kinds
use Rattle.netlist.specs.Circuit.{Circuit, source_count, observed_lines}
use Rattle.pair_judging.specs.Judges.{IsJudgeOf}
use Rattle.runs.specs.declared.run.Proof.{Proof}
use Rattle.runs.specs.declared.run.Verdict.{Verdict}
use Rattle.runs.specs.declared.run.Verdict.TheVariants.{Robust, Nonrobust, Untestable, Aborted}
use Rattle.trees.specs.ZeroOutside.{IsZeroOutside}
use Rattle.runs.specs.Lawful.{IsPathNumber, Named, NamesOn, named_with}
use Rattle.good_runs.specs.Faults.{HasProof, IsNumber}
use Rattle.good_runs.specs.GoodRun.{HasNonrobustTest, HasTest}
use Rattle.prefix_sensitize.specs.declared.verdicts.Writer.{Writer}
use Rattle.prefix_sensitize.specs.Numbering.{HaveOneNumber}
use Rattle.prefix_sensitize.specs.Searches.{AreSearches, Searches}

-- the tests so far, and the indices of the proofs that were cited so far
pub record Written : Type 0 where
  pub tests : List Test
  pub cited : List ℕ

-- A test names a path, is a pair of the rules, and has one bit per source in each vector, where there is a source and an observed line; and
-- it leaves the sources outside the support of its path at 0, as far as no link gives them their bits. Of the bits that it expects nothing
-- is said.
pub record IsNumberedTest (c : Circuit) (searches : Searches) (test : Test) : Type 0 where
  pub path : IsPathNumber test.path
  pub first : length test.pair.first ≡ source_count c
  pub second : length test.pair.second ≡ source_count c
  pub of_rules : IsOfRules c searches.rules test.pair
  pub some_source : 0 < source_count c
  pub some_observed : 0 < length (observed_lines c)
  pub zero_outside : (path : Route) → IsNumber searches.routes test.path path → IsZeroOutside c searches.rules path test.pair

-- what is written is of these searches: each cited proof was found, and has one number
pub record AreWritten (c : Circuit) (searches : Searches) (written : Written) : Type 0 where
  pub found : All (λ index. index < length searches.proofs) written.cited
  pub once : HaveOneNumber written.cited
  pub tests : All (IsNumberedTest c searches) written.tests

-- numbers stay, those of tests and those of proofs
pub record KeepsNumbers (old new : Written) : Type 0 where
  pub tests : (number : ℕ) (test : Test) → IsNumber old.tests number test → IsNumber new.tests number test
  pub proofs : (number index : ℕ) → IsNumber old.cited number index → IsNumber new.cited number index

-- a test is added under the next number; it expects no bits yet
pub record AddsTest (old new : List Test) (path_number : ℕ) (direction : Direction) (kind : Kind) (pair : Vectors) (number : ℕ) : Type 0 where
  pub test : Test
  pub of_path : test.path ≡ path_number
  pub of_direction : test.dir ≡ direction
  pub of_kind : test.kind ≡ kind
  pub of_pair : test.pair ≡ pair
  pub next : number ≡ length old + 1
  pub adds : new ≡ old ++ test ∷ []

-- the proof that a target, whose path has this number, was given no test is cited by this number
pub record HasCited (searches : Searches) (cited : List ℕ) (path_number : ℕ) (target : Target) (number : ℕ) : Type 0 where
  pub index : ℕ
  pub is_cited : IsNumber cited number index
  pub proof : Proof
  pub is_found : slice_get searches.proofs index ≡ Some proof
  pub has_proof : HasProof searches.routes searches.proofs path_number target (index + 1)

-- it is a refutation
pub record HasCitedRefutation (searches : Searches) (cited : List ℕ) (path_number : ℕ) (target : Target) (number : ℕ) : Type 0 where
  pub has : HasCited searches cited path_number target number
  pub refutes : has.proof.spent ≡ false

-- it spent the budget
pub record HasCitedSpent (searches : Searches) (cited : List ℕ) (path_number : ℕ) (target : Target) (number : ℕ) : Type 0 where
  pub has : HasCited searches cited path_number target number
  pub spent : has.proof.spent ≡ true

-- what a verdict on a fault asks of what is written
abbrev pub IsBackedVerdict : Circuit → Searches → Written → ℕ → Direction → Route → Verdict → Type 0
IsBackedVerdict c searches written path_number direction path (Robust test) =
    HasTest c written.tests path_number (target_of path direction kinds.Robust) test
IsBackedVerdict c searches written path_number direction path (Nonrobust test proof) =
    HasNonrobustTest c written.tests path_number direction path test
    × HasCited searches written.cited path_number (target_of path direction kinds.Robust) proof
IsBackedVerdict c searches written path_number direction path (Untestable proof) =
    HasCitedRefutation searches written.cited path_number (target_of path direction kinds.Nonrobust) proof
IsBackedVerdict c searches written path_number direction path (Aborted robust nonrobust) =
    HasCited searches written.cited path_number (target_of path direction kinds.Robust) robust
    × HasCitedSpent searches written.cited path_number (target_of path direction kinds.Nonrobust) nonrobust

-- how many tests are written and proofs cited
abbrev pub named_in : Written → Named
named_in written = record { tests = length written.tests; proofs = length written.cited }

-- what a writer has written
abbrev pub written_by : Writer → Written
written_by writer = record { tests = writer.tests.items; cited = writer.numbering.cited }

-- the writer judges pairs for the circuit, and gives numbers to the proofs of these searches
pub record IsWriterFor (c : Circuit) (searches : Searches) (writer : Writer) : Type 0 where
  pub judge : IsJudgeOf 4 c writer.judge
  pub found : writer.found.items ≡ searches.proofs
  pub numbers : writer.numbering.found ≡ length searches.proofs

-- a fault of the listed path of this number is to be answered, and numbers are far from the greatest that the program counts to
pub record IsAsked (c : Circuit) (searches : Searches) (path_number : ℕ) (path : Route) (writer : Writer) : Type 0 where
  pub are_searches : AreSearches c searches
  pub is_listed : IsNumber searches.routes path_number path
  pub is_writer : IsWriterFor c searches writer
  pub are_written : AreWritten c searches (written_by writer)
  pub few_tests : length writer.tests.items + 1 < 2 ^ 32
  pub few_proofs : length writer.numbering.cited + 2 < 2 ^ 32

-- A fault is answered by a verdict, which names the next test, and proofs that are cited or the next; no number changes, and at most a
-- test is added and two proofs are cited for the first time.
pub record IsAnswered (c : Circuit) (searches : Searches) (path_number : ℕ) (direction : Direction) (path : Route)
    (old new : Written) (verdict : Verdict) : Type 0 where
  pub written : AreWritten c searches new
  pub keeps : KeepsNumbers old new
  pub answer : IsBackedVerdict c searches new path_number direction path verdict
  pub names : NamesOn (named_in old) verdict
  pub named : named_with (named_in old) verdict ≡ named_in new
  pub few_tests : length new.tests ≤ length old.tests + 1
  pub few_proofs : length new.cited ≤ length old.cited + 2
