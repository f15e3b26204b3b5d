-- Rows of a tester's log: what a row says of one of so many tests, and for which first reason it is refused (this project's own
-- format). A row is the list of its fields as they stand in the file.
use Rattle.std.specs.Prelude.{◌≡◌, ◌≢◌, ℕ, ◌≤◌, Bool, true, false, List, [], ◌∷◌, length, map, codes}
use Rattle.delay_annotation.specs.DelayFile.{Row}
use Rattle.delay_annotation.specs.Fields.{SpellsNumber, trimmed}
use Rattle.delay_bounds.specs.declared.log_fault.LogFault.{LogFault}
use Rattle.delay_bounds.specs.declared.log_fault.LogFault.TheVariants as fault
use Rattle.delay_bounds.specs.declared.log_row.LogRow.{LogRow}
use Rattle.delay_bounds.specs.declared.log_row.TheConstants.{MOST_TEST_DIGITS, MOST_TIME_DIGITS}

-- the row is that of the titles
abbrev pub AreTitles : Row → Type 0
AreTitles row = map trimmed row ≡ codes "test" ∷ codes "time" ∷ codes "result" ∷ []

-- the text is the number of one of so many tests
pub record IsTestNumber (tests : ℕ) (text : List ℕ) (number : ℕ) : Type 0 where
  pub spells : SpellsNumber MOST_TEST_DIGITS text number
  pub positive : 1 ≤ number
  pub within : number ≤ tests

-- the word for what was seen of a test
abbrev pub result_word : Bool → List ℕ
result_word true = codes "pass"
result_word false = codes "fail"

-- the row is accepted, and says this
pub record IsLogRow (tests : ℕ) (row : Row) (said : LogRow) : Type 0 where
  pub test_field : List ℕ
  pub time_field : List ℕ
  pub result_field : List ℕ
  pub fields : row ≡ test_field ∷ time_field ∷ result_field ∷ []
  pub test : IsTestNumber tests (trimmed test_field) said.test
  pub time : SpellsNumber MOST_TIME_DIGITS (trimmed time_field) said.time
  pub pass : trimmed result_field ≡ result_word said.pass

-- The row of this number is refused, for the first reason that applies: it has not three fields; the first is the number of no test; the
-- second is no time; the third is no result.
pub data RefusesRow (tests number : ℕ) (row : Row) : LogFault → Type 0 where
  other_count : length row ≢ 3 → RefusesRow tests number row (fault.Fields number)
  no_test : (test time result : List ℕ) → row ≡ test ∷ time ∷ result ∷ []
      → ((named : ℕ) → ¬ IsTestNumber tests (trimmed test) named) → RefusesRow tests number row (fault.NoTest number)
  no_time : (test time result : List ℕ) → row ≡ test ∷ time ∷ result ∷ []
      → (named : ℕ) → IsTestNumber tests (trimmed test) named
      → ((told : ℕ) → ¬ SpellsNumber MOST_TIME_DIGITS (trimmed time) told) → RefusesRow tests number row (fault.BadTime number)
  no_result : (test time result : List ℕ) → row ≡ test ∷ time ∷ result ∷ []
      → (named : ℕ) → IsTestNumber tests (trimmed test) named
      → (told : ℕ) → SpellsNumber MOST_TIME_DIGITS (trimmed time) told
      → ((pass : Bool) → ¬ (trimmed result ≡ result_word pass)) → RefusesRow tests number row (fault.BadResult number)
