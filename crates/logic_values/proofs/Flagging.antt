-- Tests are flagged one by one, and block by block; a flag that tells of a lane tells of the test in it.
use Rattle.std.proofs.Common.{◌≡◌, ◌≢◌, ◌↔◌, ⊎_elim, ℕ, ◌+◌, ◌-◌, ◌<◌, ◌≤◌, Bool, false, List, length, get_or, get_or-set_same, get_or-set_other, set, refl, sym, ap, subst, ◌∙◌, arith}
use Rattle.std.specs.Prelude.{IsTrue, slice_get, Some}
use Rattle.std.proofs.lemmas.Bool.{cases_eq, cases_lt}
use Rattle.std.proofs.lemmas.Option.{same_Some, slice_get_within}
use Rattle.pd_base.specs.declared.test.Test.{Test}
use Rattle.logic_values.specs.Blocks.{AreFlaggedIn, AreFlags}

module _ (InLane : ℕ → Test → Type 0) where
  -- no test was flagged yet
  pub none_flagged : (begin : ℕ) (tests : List Test) (flags : List Bool) → AreFlaggedIn InLane begin begin tests flags flags
  none_flagged begin tests flags = record {
    inside = λ place test first last is. absurd (omega arith);
    before = λ place within. refl;
  }

  -- one test more
  pub one_flagged : (begin place : ℕ) (tests : List Test) (old now : List Bool) (own : Test) (flag : Bool) → begin ≤ place
      → place < length now → slice_get tests place ≡ Some own → (IsTrue flag ↔ InLane (place - begin) own)
      → AreFlaggedIn InLane begin place tests old now → AreFlaggedIn InLane begin (place + 1) tests old (set now place flag)
  one_flagged begin place tests old now own flag from inside at is are = record {
    inside = λ other test first last there.
        ⊎_elim
        (λ (same : other ≡ place).
        let its : own ≡ test = same_Some own test (sym at ∙ ap (slice_get tests) (sym same) ∙ there) in
        let wrote : flag ≡ get_or (set now place flag) other false =
        sym (get_or-set_same now place flag false inside) ∙ ap (λ k. get_or (set now place flag) k false) (sym same) in
        subst (λ (b : Bool). IsTrue b ↔ InLane (other - begin) test) wrote
        (subst (λ (k : ℕ). IsTrue flag ↔ InLane (k - begin) test) (sym same)
        (subst (λ (t : Test). IsTrue flag ↔ InLane (place - begin) t) its is)))
        (λ (differs : other ≢ place).
        subst (λ (b : Bool). IsTrue b ↔ InLane (other - begin) test) (sym (get_or-set_other now place other flag false differs))
        (are.inside other test first (let e = differs in omega arith) there))
        (cases_eq other place);
    before = λ other within.
        get_or-set_other now place other flag false (λ same. let e : other ≡ place = same in omega arith) ∙ are.before other within;
  }

module _ (IsSo : Test → Type 0) where
  -- each test before a place has a flag, which is true exactly where this is so of it
  abbrev pub AreFlaggedBelow : ℕ → List Test → List Bool → Type 0
  AreFlaggedBelow end tests flags =
      (place : ℕ) (test : Test) → place < end → slice_get tests place ≡ Some test → IsTrue (get_or flags place false) ↔ IsSo test

  -- so have those of one block more, where what is so in a lane is so of the test
  pub block_flagged : (InLane : ℕ → Test → Type 0) (begin end : ℕ) (tests : List Test) (old new : List Bool)
      → ((place : ℕ) (test : Test) → begin ≤ place → place < end → slice_get tests place ≡ Some test → InLane (place - begin) test ↔ IsSo test)
      → AreFlaggedIn InLane begin end tests old new → AreFlaggedBelow begin tests old → AreFlaggedBelow end tests new
  block_flagged InLane begin end tests old new tells flagged below place test within is =
      ⊎_elim
      (λ (before : place < begin).
      subst (λ (b : Bool). IsTrue b ↔ IsSo test) (sym (flagged.before place before)) (below place test before is))
      (λ (from : begin ≤ place).
      let flag = flagged.inside place test from within is in
      let told = tells place test from within is in
      (λ yes. told.0 (flag.0 yes), λ so. flag.1 (told.1 so)))
      (cases_lt place begin)

  -- and all, where none is left
  pub all_flagged : (end : ℕ) (tests : List Test) (flags : List Bool) → length tests ≤ end → length flags ≡ length tests
      → AreFlaggedBelow end tests flags → AreFlags IsSo tests flags
  all_flagged end tests flags last many below = record {
    one_each = many;
    exactly = λ place test is. below place test (let inside = slice_get_within tests place test is in omega arith) is;
  }
