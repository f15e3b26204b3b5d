-- What a flag for each test tells of the test that a verdict names; and the flags of what is so of all tests.
use Rattle.std.proofs.Common.{◌≡◌, ⊎_elim, ℕ, ◌-◌, ◌↔◌, Bool, true, false, IsTrue, List, length, replicate, subst, ◌∙◌, arith}
use Rattle.std.specs.Prelude.{slice_index_or}
use Rattle.std.proofs.lemmas.List.{get_or-replicate, length-replicate}
use Rattle.std.proofs.lemmas.Option.{get_or_from_slice_get, slice_get_cases, slice_get_within}
use Rattle.pd_base.specs.declared.test.Test.{Test}
use Rattle.runs.specs.declared.run.Verdict.{Verdict}
use Rattle.runs.specs.declared.run.Verdict.TheVariants.{Robust, Nonrobust, Untestable, Aborted}
use Rattle.logic_values.specs.Blocks.{AreFlags}
use Rattle.good_runs.specs.Faults.{IsNumber}
use Rattle.claim_check.specs.FaultsInRows.{HasTrueFlag}
use Rattle.claim_check.specs.Right.{IsSoOfItsTest, IsSoOfTest}

module _ (IsSo : Test → Type 0) (tests : List Test) (flags : List Bool) (are : AreFlags IsSo tests flags) where
  flag_of : (number : ℕ) (flag : Bool) (test : Test) → IsNumber flags number flag → IsNumber tests number test → IsTrue flag ↔ IsSo test
  flag_of number flag test is its =
      subst (λ (b : Bool). IsTrue b ↔ IsSo test) (get_or_from_slice_get flags (number - 1) flag false is.found)
      (are.exactly (number - 1) test its.found)

  -- the flag of a number tells of the test of this number
  flag_tells : (number : ℕ) → ((flag : Bool) → IsNumber flags number flag → IsTrue flag) ↔ IsSoOfTest IsSo tests number
  flag_tells number = (
    λ each test its.
        ⊎_elim
        (λ there.
        let is : IsNumber flags number there.0 = record { positive = its.positive; found = there.2 } in
        (flag_of number there.0 test is its).0 (each there.0 is))
        (λ past.
        let same = are.one_each in
        let inside = slice_get_within tests (number - 1) test its.found in
        let few = past.0 in
        absurd (omega arith))
        (slice_get_cases flags (number - 1)).1,
    λ so flag is.
        ⊎_elim
        (λ there.
        let its : IsNumber tests number there.0 = record { positive = is.positive; found = there.2 } in
        (flag_of number flag there.0 is its).1 (so there.0 its))
        (λ past.
        let same = are.one_each in
        let inside = slice_get_within flags (number - 1) flag is.found in
        let few = past.0 in
        absurd (omega arith))
        (slice_get_cases tests (number - 1)).1,
  )

  -- that of a verdict's test tells of this one
  pub its_flag_tells : (verdict : Verdict) → HasTrueFlag flags verdict ↔ IsSoOfItsTest IsSo tests verdict
  its_flag_tells (Robust test) = flag_tells test
  its_flag_tells (Nonrobust test proof) = flag_tells test
  its_flag_tells (Untestable proof) = (λ _. tt, λ _. tt)
  its_flag_tells (Aborted robust nonrobust) = (λ _. tt, λ _. tt)

module _ (IsSo : Test → Type 0) (tests : List Test) where
  -- what is so of each test
  pub true_flags : ((test : Test) → IsSo test) → (count : ℕ) → count ≡ length tests → AreFlags IsSo tests (replicate count true)
  true_flags each count many = record {
    one_each = length-replicate count true ∙ many;
    exactly = λ place test there.
        let inside = slice_get_within tests place test there in
        let is : slice_index_or (replicate count true) place false ≡ true = get_or-replicate count place true false (omega arith) in
        (λ _. each test, λ _. is);
  }
