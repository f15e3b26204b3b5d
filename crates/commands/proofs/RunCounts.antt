-- How many tests and proofs a run has, and how great the numbers in its verdicts are.
use Rattle.std.proofs.Common.{◌≡◌, ◌≤◌, ◌<◌, ◌+◌, ◌*◌, ◌^◌, List, [], ◌∷◌, length, map, count_by, refl, arith, All}
use Rattle.std.specs.List.{AllByRecursion}
use Rattle.std.proofs.lemmas.List.Elements.{All-from_recursion}
use Rattle.std.proofs.lemmas.List.Sums.{count_by-le-length}
use Rattle.pd_base.specs.declared.limits.TheConstants.{MOST_PATHS}
use Rattle.netlist.specs.Greatest.{greatest}
use Rattle.runs.specs.declared.run.ListedPath.{ListedPath}
use Rattle.runs.specs.declared.run.Verdict.{Verdict}
use Rattle.runs.specs.declared.run.Verdict.TheVariants.{Robust, Nonrobust, Untestable, Aborted}
use Rattle.runs.specs.Lawful.{AreNumbered, Named, named_with, none_named}
use Rattle.runs.specs.Verdicts.{verdicts_of}
use Rattle.good_runs.specs.GoodRun.{greatest_cited, is_tested}
use Rattle.run_files.specs.ReportForm.{HasSmallNumbers}

-- two verdicts for each path
pub verdicts_count : (paths : List ListedPath) → length (verdicts_of paths) ≡ 2 * length paths
verdicts_count [] = refl
verdicts_count (listed ∷ paths) = omega (arith, verdicts_count paths)

-- so no more tests than two for each
pub two_tests_each : (paths : List ListedPath) → count_by is_tested (verdicts_of paths) ≤ 2 * length paths
two_tests_each paths = omega (arith, count_by-le-length is_tested (verdicts_of paths), verdicts_count paths)

-- a verdict names two new proofs at most
greatest_within : (named : Named) (verdicts : List Verdict) → AreNumbered named verdicts
    → greatest (map greatest_cited verdicts) ≤ named.proofs + 2 * length verdicts
greatest_within named [] numbered = omega arith
greatest_within named (Robust test ∷ verdicts) numbered = omega (arith, greatest_within (named_with named (Robust test)) verdicts numbered.1)
greatest_within named (Nonrobust test proof ∷ verdicts) numbered =
    omega (arith, numbered.0.1.within, greatest_within (named_with named (Nonrobust test proof)) verdicts numbered.1)
greatest_within named (Untestable proof ∷ verdicts) numbered =
    omega (arith, numbered.0.within, greatest_within (named_with named (Untestable proof)) verdicts numbered.1)
greatest_within named (Aborted robust nonrobust ∷ verdicts) numbered =
    omega (
      arith,
      numbered.0.0.within,
      numbered.0.1.within,
      greatest_within (named_with named (Aborted robust nonrobust)) verdicts numbered.1,
    )

-- so no more proofs than four for each path
pub four_proofs_each : (paths : List ListedPath) → AreNumbered none_named (verdicts_of paths)
    → greatest (map greatest_cited (verdicts_of paths)) ≤ 4 * length paths
four_proofs_each paths numbered = omega (arith, greatest_within none_named (verdicts_of paths) numbered, verdicts_count paths)

-- as long as the verdicts are few, their numbers are small
record AreFewOn (named : Named) (verdicts : List Verdict) : Type 0 where
  tests : named.tests + length verdicts < 2 ^ 32
  proofs : named.proofs + 2 * length verdicts < 2 ^ 32

small_numbers : (named : Named) (verdicts : List Verdict) → AreNumbered named verdicts → AreFewOn named verdicts
    → AllByRecursion HasSmallNumbers verdicts
small_numbers named [] numbered few = tt
small_numbers named (Robust test ∷ verdicts) numbered few =
    let tests = few.tests in
    let proofs = few.proofs in
    let next = numbered.0 in (
      omega arith,
      small_numbers (named_with named (Robust test)) verdicts numbered.1 (record { tests = omega arith; proofs = omega arith }),
    )
small_numbers named (Nonrobust test proof ∷ verdicts) numbered few =
    let tests = few.tests in
    let proofs = few.proofs in
    let next = numbered.0.0 in
    let within = numbered.0.1.within in (
      (omega arith, omega arith),
      small_numbers (named_with named (Nonrobust test proof)) verdicts numbered.1 (record { tests = omega arith; proofs = omega arith }),
    )
small_numbers named (Untestable proof ∷ verdicts) numbered few =
    let tests = few.tests in
    let proofs = few.proofs in
    let within = numbered.0.within in (
      omega arith,
      small_numbers (named_with named (Untestable proof)) verdicts numbered.1 (record { tests = omega arith; proofs = omega arith }),
    )
small_numbers named (Aborted robust nonrobust ∷ verdicts) numbered few =
    let tests = few.tests in
    let proofs = few.proofs in
    let first = numbered.0.0.within in
    let second = numbered.0.1.within in (
      (omega arith, omega arith),
      small_numbers (named_with named (Aborted robust nonrobust)) verdicts numbered.1 (record { tests = omega arith; proofs = omega arith }),
    )

-- those for either transition
rises_small : (paths : List ListedPath) → AllByRecursion HasSmallNumbers (verdicts_of paths) → AllByRecursion (λ listed. HasSmallNumbers listed.rise) paths
rises_small [] small = tt
rises_small (listed ∷ paths) small = (small.0, rises_small paths small.1.1)

falls_small : (paths : List ListedPath) → AllByRecursion HasSmallNumbers (verdicts_of paths) → AllByRecursion (λ listed. HasSmallNumbers listed.fall) paths
falls_small [] small = tt
falls_small (listed ∷ paths) small = (small.1.0, falls_small paths small.1.1)

module _ (paths : List ListedPath) (few : length paths ≤ MOST_PATHS) (numbered : AreNumbered none_named (verdicts_of paths)) where
  all_small : AllByRecursion HasSmallNumbers (verdicts_of paths)
  all_small =
      small_numbers none_named (verdicts_of paths) numbered
      (record { tests = omega (arith, verdicts_count paths); proofs = omega (arith, verdicts_count paths) })

  pub small_rises : All (λ listed. HasSmallNumbers listed.rise) paths
  small_rises = All-from_recursion (λ listed. HasSmallNumbers listed.rise) paths (rises_small paths all_small)

  pub small_falls : All (λ listed. HasSmallNumbers listed.fall) paths
  small_falls = All-from_recursion (λ listed. HasSmallNumbers listed.fall) paths (falls_small paths all_small)
