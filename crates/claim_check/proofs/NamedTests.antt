-- Each test is named by the verdict on some fault, where the verdicts name as many as there are.
use Rattle.std.proofs.Common.{◌≡◌, ◌⊎◌, ⊎_elim, inl, inr, ℕ, suc, ◌+◌, ◌-◌, ◌<◌, ◌≤◌, cond, List, [], ◌∷◌, refl, subst, arith}
use Rattle.std.specs.List.{count_by}
use Rattle.std.specs.Prelude.{slice_get, Some}
use Rattle.std.proofs.lemmas.Bool.{cases_lt}
use Rattle.std.proofs.lemmas.List.Sums.{sum_by-cons}
use Rattle.pd_base.specs.declared.fault.Direction.{Direction}
use Rattle.pd_base.specs.declared.fault.Direction.TheVariants.{Rise, Fall}
use Rattle.runs.specs.declared.run.ListedPath.{ListedPath}
use Rattle.runs.specs.declared.run.Verdict.{Verdict}
use Rattle.runs.specs.declared.run.Verdict.TheVariants.{Robust, Nonrobust, Untestable, Aborted}
use Rattle.runs.specs.Lawful.{AreNumbered, Named, NamesOn, named_with}
use Rattle.runs.specs.Verdicts.{verdicts_of}
use Rattle.good_runs.specs.Faults.{IsNumber, verdict_for}
use Rattle.good_runs.specs.GoodRun.{is_tested}

-- the verdict's test has this number
abbrev pub NamesTest : Verdict → ℕ → Type 0
NamesTest (Robust test) number = test ≡ number
NamesTest (Nonrobust test proof) number = test ≡ number
NamesTest (Untestable proof) number = ⊥
NamesTest (Aborted robust nonrobust) number = ⊥

-- a number past those that are named is that of the verdict's test, or it is past that too
named_or_later : (named : Named) (verdict : Verdict) (number : ℕ) → NamesOn named verdict → named.tests < number
    → NamesTest verdict number ⊎ ((named_with named verdict).tests < number)
named_or_later named (Robust test) number on past =
    ⊎_elim (λ (less : named.tests + 1 < number). inr less) (λ (most : number ≤ named.tests + 1). inl (omega (arith, on)))
    (cases_lt (named.tests + 1) number)
named_or_later named (Nonrobust test proof) number on past =
    let next = on.0 in
    ⊎_elim (λ (less : named.tests + 1 < number). inr less) (λ (most : number ≤ named.tests + 1). inl (omega (arith, next)))
    (cases_lt (named.tests + 1) number)
named_or_later named (Untestable proof) number on past = inr past
named_or_later named (Aborted robust nonrobust) number on past = inr past

-- how many tests are named with a verdict
named_tests : (named : Named) (verdict : Verdict) → (named_with named verdict).tests ≡ named.tests + cond (is_tested verdict) 1 0
named_tests named (Robust test) = refl
named_tests named (Nonrobust test proof) = refl
named_tests named (Untestable proof) = omega arith
named_tests named (Aborted robust nonrobust) = omega arith

-- a verdict counts among those behind it
counts_more : (verdict : Verdict) (verdicts : List Verdict) → count_by is_tested (verdict ∷ verdicts) ≡ cond (is_tested verdict) 1 0 + count_by is_tested verdicts
counts_more verdict verdicts = sum_by-cons (λ (v : Verdict). cond (is_tested v) 1 0) verdict verdicts

-- the fault whose verdict has the test of this number
pub record HasNamedTest (paths : List ListedPath) (test_number : ℕ) : Type 0 where
  pub number : ℕ
  pub listed : ListedPath
  pub direction : Direction
  pub is_listed : IsNumber paths number listed
  pub names : NamesTest (verdict_for listed direction) test_number

-- the fault has the next number in a longer list
behind : (first : ListedPath) (paths : List ListedPath) (test_number : ℕ) → HasNamedTest paths test_number
    → HasNamedTest (first ∷ paths) test_number
behind first paths test_number has = record {
  number = has.number + 1;
  listed = has.listed;
  direction = has.direction;
  is_listed = record {
    positive = omega arith;
    found = subst (λ (place : ℕ). slice_get (first ∷ paths) place ≡ Some has.listed)
        (let some = has.is_listed.positive in let e : suc (has.number - 1) ≡ has.number + 1 - 1 = omega arith in e) has.is_listed.found;
  };
  names = has.names;
}

at_head : (first : ListedPath) (paths : List ListedPath) → IsNumber (first ∷ paths) 1 first
at_head first paths = record { positive = omega arith; found = refl }

pub test_is_named : (named : Named) (paths : List ListedPath) (number : ℕ) → AreNumbered named (verdicts_of paths) → named.tests < number
    → number ≤ named.tests + count_by is_tested (verdicts_of paths) → HasNamedTest paths number
test_is_named named [] number numbered past within = absurd (omega arith)
test_is_named named (first ∷ paths) number numbered past within =
    ⊎_elim
    (λ (rise : NamesTest first.rise number).
    record { number = 1; listed = first; direction = Rise; is_listed = at_head first paths; names = rise })
    (λ (later : (named_with named first.rise).tests < number).
    ⊎_elim
    (λ (fall : NamesTest first.fall number).
    record { number = 1; listed = first; direction = Fall; is_listed = at_head first paths; names = fall })
    (λ (latest : (named_with (named_with named first.rise) first.fall).tests < number).
    behind first paths number
    (test_is_named (named_with (named_with named first.rise) first.fall) paths number numbered.1.1 latest
    (let one = named_tests named first.rise in
    let two = named_tests (named_with named first.rise) first.fall in
    let all = counts_more first.rise (first.fall ∷ verdicts_of paths) in
    let rest = counts_more first.fall (verdicts_of paths) in
    omega arith)))
    (named_or_later (named_with named first.rise) first.fall number numbered.1.0 later))
    (named_or_later named first.rise number numbered.0 past)
