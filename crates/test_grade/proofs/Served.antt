-- A test serves a fault exactly where it is a test of the kind that the fault's verdict asks for.
use Rattle.std.proofs.Common.{◌≡◌, ⊎_elim, inl, inr, ℕ, ◌⊎◌, ◌+◌, ◌*◌, ◌/◌, ◌%◌, ◌<◌, ◌==◌, Bool, if◌then◌else◌, IsTrue, List, length, slice_get, Some, refl, ap, ◌∙◌, arith}
use Rattle.std.proofs.lemmas.Bool.{cases_eq, eq-eqb, ne_eqb, false≢true}
use Rattle.std.proofs.lemmas.Option.{slice_get_cases, slice_get_within}
use Rattle.std.specs.List.{items_where_true}
use Rattle.pd_base.specs.declared.fault.Direction.{Direction}
use Rattle.pd_base.specs.declared.fault.Direction.TheVariants.{Rise, Fall}
use Rattle.pd_base.specs.declared.fault.Kind.TheVariants.{Robust as RobustTest, Nonrobust as NonrobustTest}
use Rattle.pd_base.specs.declared.test.Test.{Test}
use Rattle.pd_base.specs.Pair.{Vectors}
use Rattle.pd_base.specs.Route.{Route}
use Rattle.pd_base.specs.Target.{target_of}
use Rattle.netlist.specs.Circuit.{Circuit}
use Rattle.netlist.specs.Conditions.{Meets}
use Rattle.path_laws.proofs.NonrobustPath.{test_is_nonrobust}
use Rattle.runs.specs.declared.run.ListedPath.{ListedPath}
use Rattle.runs.specs.declared.run.Verdict.{Verdict}
use Rattle.runs.specs.declared.run.Verdict.TheVariants.{Robust, Nonrobust, Untestable, Aborted}
use Rattle.runs.specs.Verdicts.{is_nonrobust}
use Rattle.test_grade.specs.declared.kind_asked.KindAsked.TheVariants.{Serving}
use Rattle.test_grade.specs.Compact.{IsCompact, serves_in}
use Rattle.test_grade.specs.Compacted.{IsCompacted}
use Rattle.test_grade.specs.Serving.{Fault, IsMatrix, Serves, fault_place, kind_due, verdict_at}
use Rattle.test_grade.specs.Serving.Serves.{by_covering, by_nonrobust_test}
use Rattle.test_grade.proofs.Blocks.{place_below}
use Rattle.test_grade.proofs.Picking.{picked_compacted}

module _ (c : Circuit) (path : Route) (direction : Direction) (pair : Vectors) where
  -- a robust test serves whatever the verdict is
  robust_due : (verdict : Verdict) → Meets c (target_of path direction RobustTest) pair
      → Meets c (target_of path direction (kind_due verdict)) pair
  robust_due (Robust test) meets = meets
  robust_due (Nonrobust test proof) meets = test_is_nonrobust RobustTest c path direction pair meets
  robust_due (Untestable proof) meets = meets
  robust_due (Aborted robust nonrobust) meets = meets

  -- a nonrobust one where the verdict is nonrobust
  nonrobust_due : (verdict : Verdict) → IsTrue (is_nonrobust verdict) → Meets c (target_of path direction NonrobustTest) pair
      → Meets c (target_of path direction (kind_due verdict)) pair
  nonrobust_due (Robust test) is meets = absurd (false≢true is)
  nonrobust_due (Nonrobust test proof) is meets = meets
  nonrobust_due (Untestable proof) is meets = absurd (false≢true is)
  nonrobust_due (Aborted robust nonrobust) is meets = absurd (false≢true is)

  -- and no other test
  from_due : (verdict : Verdict) → Meets c (target_of path direction (kind_due verdict)) pair
      → Meets c (target_of path direction RobustTest) pair
      ⊎ (IsTrue (is_nonrobust verdict) × Meets c (target_of path direction NonrobustTest) pair)
  from_due (Robust test) meets = inl meets
  from_due (Nonrobust test proof) meets = inr (refl, meets)
  from_due (Untestable proof) meets = inl meets
  from_due (Aborted robust nonrobust) meets = inl meets

-- the fault of a place
abbrev fault_at : ℕ → Fault
fault_at place = record { path = place / 2; direction = if place % 2 == 0 then Rise else Fall }

-- whose place it is
fault_at_place : (place : ℕ) → fault_place (place / 2) (if place % 2 == 0 then Rise else Fall) ≡ place
fault_at_place place =
    ⊎_elim
    (λ even.
    ap (λ bit. fault_place (place / 2) (if bit then Rise else Fall)) (eq-eqb (place % 2) 0 even)
    ∙ (let same : 2 * (place / 2) ≡ place = omega arith in same))
    (λ odd.
    ap (λ bit. fault_place (place / 2) (if bit then Rise else Fall)) (ne_eqb (place % 2) 0 odd)
    ∙ (let same : 2 * (place / 2) + 1 ≡ place = omega arith in same))
    (cases_eq (place % 2) 0)

-- a fault whose place is one of those of the paths is of one of them
path_within : (path : ℕ) (direction : Direction) (paths : ℕ) → fault_place path direction < 2 * paths → path < paths
path_within path Rise paths within = omega arith
path_within path Fall paths within = omega arith

module _ (c : Circuit) (paths : List ListedPath) (tests : List Test) (words : List ℕ)
    (are : IsMatrix Serving c paths tests (length tests) words) where
  -- the words tell what is served
  told : (place : ℕ) (test : Test) → slice_get tests place ≡ Some test → (fault : Fault) → Serves c paths test fault
      → (fault_place fault.path fault.direction < 2 * length paths)
      × IsTrue (serves_in words (2 * length paths) place (fault_place fault.path fault.direction))
  told place test at fault (by_covering listed stands covers) = (
    place_below fault.path fault.direction (length paths) (slice_get_within paths fault.path listed stands),
    (are.each place test fault.path listed fault.direction (slice_get_within tests place test at) at stands).1
        (robust_due c listed.path fault.direction test.pair (verdict_at listed fault.direction) covers),
  )
  told place test at fault (by_nonrobust_test listed stands is meets) = (
    place_below fault.path fault.direction (length paths) (slice_get_within paths fault.path listed stands),
    (are.each place test fault.path listed fault.direction (slice_get_within tests place test at) at stands).1
        (nonrobust_due c listed.path fault.direction test.pair (verdict_at listed fault.direction) is meets),
  )

  -- and nothing else
  tells : (place : ℕ) (test : Test) → slice_get tests place ≡ Some test → (fault : Fault)
      → fault_place fault.path fault.direction < 2 * length paths
      → IsTrue (serves_in words (2 * length paths) place (fault_place fault.path fault.direction)) → Serves c paths test fault
  tells place test at fault within is =
      ⊎_elim
      (λ found. of_path found.0 found.2)
      (λ past. let inside = path_within fault.path fault.direction (length paths) within in absurd (omega (arith, past.0)))
      (slice_get_cases paths fault.path).1
    where
      of_path : (listed : ListedPath) → slice_get paths fault.path ≡ Some listed → Serves c paths test fault
      of_path listed stands =
          ⊎_elim (λ covers. by_covering listed stands covers) (λ both. by_nonrobust_test listed stands both.0 both.1)
          (from_due c listed.path fault.direction test.pair (verdict_at listed fault.direction)
          ((are.each place test fault.path listed fault.direction (slice_get_within tests place test at) at stands).0 is))

  -- so a compact choice by the words is a compact list
  pub served_compacted : (flags : List Bool) → IsCompact (length tests) (2 * length paths) (serves_in words (2 * length paths)) flags
      → IsCompacted (Serves c paths) tests (items_where_true flags tests)
  served_compacted flags is =
      picked_compacted (Serves c paths) tests (2 * length paths) (serves_in words (2 * length paths))
      (λ fault. fault_place fault.path fault.direction) fault_at (λ k within. fault_at_place k) told tells flags is
