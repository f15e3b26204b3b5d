-- The earliest passes of tests, with one row of the log more; and the least times of a fault's tests, with one test more.
use Rattle.std.proofs.Common.{◌≡◌, ◌≢◌, ⊎_elim, inl, inr, ◌⊎◌, ℕ, ◌+◌, ◌<◌, true, false, IsTrue, List, [], ◌∷◌, ◌++◌, length, length-append, slice_get, get_or, set, length-set, get_or-set_same, get_or-set_other, Option, Some, None, sym, ap, subst, ◌∙◌, arith}
use Rattle.std.proofs.lemmas.Bool.{cases_eq, cases_lt, false≢true}
use Rattle.std.proofs.Math.Seq.{get_or-append_seam}
use Rattle.std.proofs.lemmas.List.{get_or_append_left}
use Rattle.std.proofs.lemmas.Option.{same_Some}
use Rattle.test_grade.specs.Compact.{serves_in}
use Rattle.delay_bounds.specs.Least.{IsLeast}
use Rattle.delay_bounds.specs.Inside.Earliest.{AreEarliest, AreLeast, IsTold, PassesEarly, earlier, time_of}
use Rattle.delay_bounds.specs.declared.log_row.LogRow.{LogRow}
use Rattle.delay_bounds.proofs.Leasts.{least_own, least_same, least_with}

-- in no rows no test passes
pub none_passed : (log : List LogRow) (times : List (Option ℕ)) → ((place : ℕ) → time_of times place ≡ None)
    → AreEarliest log 0 times
none_passed log times none = record {
  each = λ place within.
      subst (IsLeast (PassesEarly log 0 (place + 1))) (sym (none place)) (λ time is. let early = is.early in absurd (omega arith));
}

-- the row itself has the test pass
record IsOwnPass (row : LogRow) (number time : ℕ) : Type 0 where
  passes : IsTrue row.pass
  of_test : row.test ≡ number
  at_time : row.time ≡ time

module _ (log : List LogRow) (count : ℕ) (row : LogRow) (at : slice_get log count ≡ Some row) where
  -- a pass in one row more is one before it, or the row's own
  early_more : (number time : ℕ) → PassesEarly log (count + 1) number time → PassesEarly log count number time ⊎ IsOwnPass row number time
  early_more number time is =
      ⊎_elim
      (λ before. inl (record { passes = is.passes; early = before }))
      (λ behind.
      let early = is.early in
      let same : is.passes.place ≡ count = omega arith in
      let one : is.passes.row ≡ row = same_Some is.passes.row row (sym is.passes.at ∙ ap (slice_get log) same ∙ at) in
      inr (record {
        passes = subst (λ (r : LogRow). IsTrue r.pass) one is.passes.passes;
        of_test = sym (ap (λ (r : LogRow). r.test) one) ∙ is.passes.of_test;
        at_time = sym (ap (λ (r : LogRow). r.time) one) ∙ is.passes.at_time;
      }))
      (cases_lt is.passes.place count)

  early_before : (number time : ℕ) → PassesEarly log count number time → PassesEarly log (count + 1) number time
  early_before number time is = let early = is.early in record { passes = is.passes; early = omega arith }

  early_own : (number time : ℕ) → IsOwnPass row number time → PassesEarly log (count + 1) number time
  early_own number time is = record {
    passes = record { place = count; row = row; at = at; passes = is.passes; of_test = is.of_test; at_time = is.at_time };
    early = omega arith;
  }

  -- a row of another test, or one that fails, changes nothing for a test
  passed_alike : (number : ℕ) (time : Option ℕ) → ((own : ℕ) → ¬ IsOwnPass row number own) → IsLeast (PassesEarly log count number) time
      → IsLeast (PassesEarly log (count + 1) number) time
  passed_alike number time none least =
      least_same (PassesEarly log count number) (PassesEarly log (count + 1) number) time least
      (λ own is. ⊎_elim (λ before. before) (λ this. absurd (none own this)) (early_more number own is))
      (early_before number)

  -- a row that fails is skipped
  pub failed_more : (times : List (Option ℕ)) → row.pass ≡ false → AreEarliest log count times → AreEarliest log (count + 1) times
  failed_more times fails are = record {
    each = λ place within.
        passed_alike (place + 1) (time_of times place) (λ own is. false≢true (sym fails ∙ is.passes)) (are.each place within);
  }

  -- one that passes is noted
  pub passed_more : (times : List (Option ℕ)) (place : ℕ) → place < length times → row.pass ≡ true → row.test ≡ place + 1
      → AreEarliest log count times → AreEarliest log (count + 1) (set times place (earlier (time_of times place) (Some row.time)))
  passed_more times place inside passes named are = record { each = each }
    where
      new : List (Option ℕ)
      new = set times place (earlier (time_of times place) (Some row.time))

      each : (other : ℕ) → other < length new → IsLeast (PassesEarly log (count + 1) (other + 1)) (time_of new other)
      each other within =
          let long = length-set times place (earlier (time_of times place) (Some row.time)) in
          ⊎_elim
          (λ (same : other ≡ place).
          subst (λ k. IsLeast (PassesEarly log (count + 1) (k + 1)) (time_of new k)) (sym same)
          (subst (IsLeast (PassesEarly log (count + 1) (place + 1)))
          (sym (get_or-set_same times place (earlier (time_of times place) (Some row.time)) None inside))
          (least_with (PassesEarly log count (place + 1)) (λ time. Some row.time ≡ Some time) (PassesEarly log (count + 1) (place + 1))
          (time_of times place) (Some row.time) (are.each place inside) (least_own (Some row.time))
          (λ time is. ⊎_elim (λ before. inl before) (λ this. inr (ap Some this.at_time)) (early_more (place + 1) time is))
          (early_before (place + 1))
          (λ time is. early_own (place + 1) time (record { passes = passes; of_test = named; at_time = same_Some row.time time is })))))
          (λ (differs : other ≢ place).
          subst (IsLeast (PassesEarly log (count + 1) (other + 1)))
          (sym (get_or-set_other times place other (earlier (time_of times place) (Some row.time)) None differs))
          (passed_alike (other + 1) (time_of times other)
          (λ own is. let its = is.of_test in differs (omega arith)) (are.each other (omega arith))))
          (cases_eq other place)

module _ (words : List ℕ) (faults fault : ℕ) (times : List (Option ℕ)) where
  -- before the first test none is told
  pub none_told : IsLeast (IsTold words faults fault times 0) None
  none_told = λ time is. let early = is.early in absurd (omega arith)

  told_before : (count time : ℕ) → IsTold words faults fault times count time → IsTold words faults fault times (count + 1) time
  told_before count time is =
      let early = is.early in record { place = is.place; early = omega arith; serves_it = is.serves_it; is_its = is.is_its }

  -- a time that is told with one test more is told before it, or is that test's
  told_split : (count time : ℕ) → IsTold words faults fault times (count + 1) time
      → IsTold words faults fault times count time ⊎ (IsTrue (serves_in words faults count fault) × (time_of times count ≡ Some time))
  told_split count time is =
      ⊎_elim
      (λ before. inl (record { place = is.place; early = before; serves_it = is.serves_it; is_its = is.is_its }))
      (λ behind.
      let early = is.early in
      let same : is.place ≡ count = omega arith in
      inr (subst (λ k. IsTrue (serves_in words faults k fault)) same is.serves_it, sym (ap (time_of times) same) ∙ is.is_its))
      (cases_lt is.place count)

  -- a test that serves the fault adds its time
  pub told_more : (count : ℕ) (least : Option ℕ) → serves_in words faults count fault ≡ true
      → IsLeast (IsTold words faults fault times count) least
      → IsLeast (IsTold words faults fault times (count + 1)) (earlier least (time_of times count))
  told_more count least does is =
      least_with (IsTold words faults fault times count) (λ time. time_of times count ≡ Some time)
      (IsTold words faults fault times (count + 1)) least (time_of times count) is (least_own (time_of times count))
      (λ time told. ⊎_elim (λ before. inl before) (λ own. inr own.1) (told_split count time told))
      (told_before count)
      (λ time own. record { place = count; early = omega arith; serves_it = does; is_its = own })

  -- and one that does not adds none
  pub told_alike : (count : ℕ) (least : Option ℕ) → serves_in words faults count fault ≡ false
      → IsLeast (IsTold words faults fault times count) least → IsLeast (IsTold words faults fault times (count + 1)) least
  told_alike count least not is =
      least_same (IsTold words faults fault times count) (IsTold words faults fault times (count + 1)) least is
      (λ time told. ⊎_elim (λ before. before) (λ own. absurd (false≢true (sym not ∙ own.0))) (told_split count time told))
      (told_before count)

-- one fault more has its least time
pub least_more : (words : List ℕ) (faults : ℕ) (times : List (Option ℕ)) (count : ℕ) (bounds : List (Option ℕ)) (bound : Option ℕ)
    → AreLeast words faults times count bounds → IsLeast (IsTold words faults count times (length times)) bound
    → AreLeast words faults times (count + 1) (bounds ++ bound ∷ [])
least_more words faults times count bounds bound are least = record {
  one_each = let long = are.one_each in omega (arith, long, length-append bounds (bound ∷ []));
  each = λ fault within.
      let long = are.one_each in
      ⊎_elim
      (λ before.
      subst (IsLeast (IsTold words faults fault times (length times)))
      (sym (get_or_append_left bounds (bound ∷ []) None fault (omega arith))) (are.each fault before))
      (λ behind.
      let same : fault ≡ count = omega arith in
      subst (λ k. IsLeast (IsTold words faults k times (length times)) (get_or (bounds ++ bound ∷ []) k None)) (sym same)
      (subst (IsLeast (IsTold words faults count times (length times))) (sym (ap (λ k. get_or (bounds ++ bound ∷ []) k None) (sym long) ∙ get_or-append_seam bounds bound [] None)) least))
      (cases_lt fault count);
}
