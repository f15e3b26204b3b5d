-- What the tests file, the report and the proofs file ask of what they spell. There is one predicate per file, for whoever
-- writes, reads or judges it (this project's own).
use Rattle.std.specs.Prelude.{◌≡◌, ⊤, ℕ, ◌+◌, ◌<◌, ◌≤◌, max, List, [], ◌∷◌, length, All}
use Rattle.pd_base.specs.declared.test.Test.{Test}
use Rattle.pd_base.specs.declared.limits.TheConstants.{MOST_PATHS}
use Rattle.pd_base.specs.Route.{Route}
use Rattle.pd_base.specs.declared.rules.Rules.{Rules}
use Rattle.netlist.specs.declared.limits.TheConstants.{MOST_LEVELS}
use Rattle.netlist.specs.Circuit.{Circuit, source_count, observed_lines}
use Rattle.netlist.specs.Pins.{IsPin}
use Rattle.runs.specs.declared.run.ListedPath.{ListedPath}
use Rattle.runs.specs.declared.run.Proof.{Proof}
use Rattle.runs.specs.declared.run.Run.{Run}
use Rattle.runs.specs.declared.run.Verdict.{Verdict}
use Rattle.runs.specs.declared.run.Verdict.TheVariants.{Robust, Nonrobust, Untestable, Aborted}
use Rattle.trees.specs.declared.tree.Node.{Node}
use Rattle.trees.specs.declared.tree.Node.TheVariants.{Closed, Waiting, Split}
use Rattle.trees.specs.Refutations.{IsSplitOf}
use Rattle.runs.specs.Verdicts.{verdicts_of}

-- the number of a listed path, from 1
pub record IsPathNumber (number : ℕ) : Type 0 where
  pub positive : 1 ≤ number
  pub within : number ≤ MOST_PATHS

-- a test names a path, and has one bit per source in each vector and one expected bit per observed line, where there is a
-- source and an observed line
pub record IsLawfulTest (c : Circuit) (test : Test) : Type 0 where
  pub path : IsPathNumber test.path
  pub first : length test.pair.first ≡ source_count c
  pub second : length test.pair.second ≡ source_count c
  pub expected : length test.expected ≡ length (observed_lines c)
  pub some_source : 0 < source_count c
  pub some_observed : 0 < length (observed_lines c)

-- the tests that a tests file of this circuit may list
abbrev pub AreLawfulTests : Circuit → List Test → Type 0
AreLawfulTests c tests = All (IsLawfulTest c) tests

-- what a report names of a path is in the circuit: its source and its steps. Whether the steps connect is not asked
pub record IsNameable (c : Circuit) (path : Route) : Type 0 where
  pub source : path.source.0 < source_count c
  pub steps : All (IsPin c) path.steps

-- what the verdicts so far have named: this many tests, and proofs up to this number
pub record Named : Type 0 where
  pub tests : ℕ
  pub proofs : ℕ

-- nothing is named before the first verdict
abbrev pub none_named : Named
none_named = record { tests = 0; proofs = 0 }

-- the number of a proof that was named, up to this greatest one, or of the next
pub record IsProofNumber (greatest number : ℕ) : Type 0 where
  pub positive : 1 ≤ number
  pub within : number ≤ greatest + 1

-- what is named with one more verdict
abbrev pub named_with : Named → Verdict → Named
named_with named (Robust test) = record named { tests = named.tests + 1 }
named_with named (Nonrobust test proof) = record { tests = named.tests + 1; proofs = max named.proofs proof }
named_with named (Untestable proof) = record named { proofs = max named.proofs proof }
named_with named (Aborted robust nonrobust) = record named { proofs = max (max named.proofs robust) nonrobust }

-- the verdict names the next test, and proofs that were named or the next, the robust proof before the nonrobust one
abbrev pub NamesOn : Named → Verdict → Type 0
NamesOn named (Robust test) = test ≡ named.tests + 1
NamesOn named (Nonrobust test proof) = (test ≡ named.tests + 1) × IsProofNumber named.proofs proof
NamesOn named (Untestable proof) = IsProofNumber named.proofs proof
NamesOn named (Aborted robust nonrobust) =
    IsProofNumber named.proofs robust × IsProofNumber (max named.proofs robust) nonrobust

-- each verdict does so, from what is named on
abbrev pub AreNumbered : Named → List Verdict → Type 0
AreNumbered named [] = ⊤
AreNumbered named (verdict ∷ verdicts) = NamesOn named verdict × AreNumbered (named_with named verdict) verdicts

-- the listed paths that a report of this circuit may have
pub record IsLawfulReport (c : Circuit) (paths : List ListedPath) : Type 0 where
  pub nameable : All (λ listed. IsNameable c listed.path) paths
  pub numbered : AreNumbered none_named (verdicts_of paths)

-- a proof names a path, and so many of its steps as a prefix may have: a path has no more steps than its circuit has levels
pub record IsLawfulProof (proof : Proof) : Type 0 where
  pub path : IsPathNumber proof.path
  pub steps : proof.steps ≤ MOST_LEVELS

-- the proofs that a proofs file may list, as far as no circuit is asked
abbrev pub AreLawfulProofs : List Proof → Type 0
AreLawfulProofs proofs = All IsLawfulProof proofs

-- a node of a tree under these rules: a leaf, or a split that a refutation under them may have
abbrev pub IsNodeOf : Circuit → Rules → Node → Type 0
IsNodeOf c rules Closed = ⊤
IsNodeOf c rules Waiting = ⊤
IsNodeOf c rules (Split split) = IsSplitOf c rules split

-- the proofs that a proofs file of this circuit and these rules may list
pub record AreLawfulProofsOf (c : Circuit) (rules : Rules) (proofs : List Proof) : Type 0 where
  pub lawful : AreLawfulProofs proofs
  pub nodes : All (λ proof. All (IsNodeOf c rules) proof.tree) proofs

-- a run that the three files can spell
pub record IsLawfulRun (c : Circuit) (run : Run) : Type 0 where
  pub tests : AreLawfulTests c run.tests
  pub report : IsLawfulReport c run.paths
  pub proofs : AreLawfulProofsOf c run.rules run.proofs
