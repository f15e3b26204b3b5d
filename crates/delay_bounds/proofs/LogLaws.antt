-- Laws of logs: a file that has rows is not refused, and its rows name tests.
use Rattle.std.proofs.Common.{◌≡◌, ℕ, ◌+◌, List, [], ◌∷◌, ◌++◌, length, All, sym, ap, subst, ◌∙◌, append_assoc}
use Rattle.std.proofs.lemmas.List.Elements.{All-from_recursion}
use Rattle.std.specs.List.{AllByRecursion}
use Rattle.pd_base.specs.Memory.{out_of_memory}
use Rattle.delay_annotation.specs.DelayFile.{Row}
use Rattle.delay_annotation.specs.Fields.{SpellsNumber, trimmed}
use Rattle.delay_annotation.proofs.FirstRows.{all_rows_once, front_of_all}
use Rattle.delay_bounds.specs.Bounds.{NamesTest}
use Rattle.delay_bounds.specs.LogRows.{AreTitles, IsLogRow, IsTestNumber, RefusesRow, result_word}
use Rattle.delay_bounds.specs.LogRows.RefusesRow.{no_result, no_test, no_time, other_count}
use Rattle.delay_bounds.specs.LogFile.{AreLogRows, ArePassed, IsLog, RefusesLog, RefusesNext}
use Rattle.delay_bounds.specs.LogFile.RefusesLog.{no_memory, no_row, row_refused}
use Rattle.delay_bounds.specs.declared.log_fault.LogFault.{LogFault}
use Rattle.delay_bounds.specs.declared.log_fault.LogFault.TheVariants as fault
use Rattle.delay_bounds.specs.declared.log_row.LogRow.{LogRow}
use Rattle.delay_bounds.specs.declared.log_row.TheConstants.{MOST_TIME_DIGITS}

-- the fields of a row
fields_once : (a b c a' b' c' : List ℕ) → a ∷ b ∷ c ∷ [] ≡ a' ∷ b' ∷ c' ∷ [] → (a ≡ a') × (b ≡ b') × (c ≡ c')
fields_once a b c a' b' c' same = (cc same, cc same, cc same)

-- an accepted row is not refused
accepted_not_refused : (tests number : ℕ) (row : Row) (said : LogRow) {why : LogFault} → IsLogRow tests row said
    → ¬ RefusesRow tests number row why
accepted_not_refused tests number row said is (other_count other) = other (ap length is.fields)
accepted_not_refused tests number row said is (no_test a b c same none) =
    let fields = fields_once _ _ _ a b c (sym is.fields ∙ same) in
    none said.test (subst (λ field. IsTestNumber tests (trimmed field) said.test) fields.0 is.test)
accepted_not_refused tests number row said is (no_time a b c same named names none) =
    let fields = fields_once _ _ _ a b c (sym is.fields ∙ same) in
    none said.time (subst (λ field. SpellsNumber MOST_TIME_DIGITS (trimmed field) said.time) fields.1 is.time)
accepted_not_refused tests number row said is (no_result a b c same named names told tells none) =
    let fields = fields_once _ _ _ a b c (sym is.fields ∙ same) in
    none said.pass (subst (λ field. trimmed field ≡ result_word said.pass) fields.2 is.pass)

-- among accepted rows each is
row_at : (tests : ℕ) (front : List Row) (row : Row) (rest : List Row) (log : List LogRow)
    → AreLogRows tests (front ++ row ∷ rest) log → (said : LogRow) × IsLogRow tests row said
row_at tests [] row rest [] accepted = absurd accepted
row_at tests [] row rest (said ∷ log) accepted = (said, accepted.0)
row_at tests (first ∷ front) row rest [] accepted = absurd accepted
row_at tests (first ∷ front) row rest (said ∷ log) accepted = row_at tests front row rest log accepted.1

-- a row within rows that pass is not refused
passed_not_refused : (tests : ℕ) (front : List Row) (row : Row) (rest rows : List Row) (why : LogFault) → front ++ row ∷ rest ≡ rows
    → ArePassed tests rows → ¬ RefusesNext tests front row why
passed_not_refused tests [] row rest [] why same passed refuses = cc same
passed_not_refused tests [] row rest (titles ∷ rows) why same passed refuses =
    let heads : titles ≡ row = cc same in
    refuses.1 (subst AreTitles heads passed.0)
passed_not_refused tests (first ∷ front) row rest [] why same passed refuses = cc same
passed_not_refused tests (first ∷ front) row rest (titles ∷ rows) why same passed refuses =
    let tails : rows ≡ front ++ row ∷ rest = cc same in
    let accepted = row_at tests front row rest passed.1 (subst (λ all. AreLogRows tests all passed.1) tails passed.2) in
    accepted_not_refused tests (length (first ∷ front) + 1) row accepted.0 accepted.1 refuses

-- a file that has rows is refused for no reason but want of memory
pub log_not_refused : (tests : ℕ) (bytes : List ℕ) (log : List LogRow) (why : LogFault) → IsLog tests bytes log
    → RefusesLog tests bytes why → why ≡ fault.NoMemory out_of_memory
log_not_refused tests bytes log why has (no_memory is) = is
log_not_refused tests bytes log why has (no_row none is) =
    let same = all_rows_once bytes [] (has.titles ∷ has.rows) none has.all_rows in cc same
log_not_refused tests bytes log why has (row_refused before row first passed refuses) =
    let front = front_of_all bytes (before ++ row ∷ []) (has.titles ∷ has.rows) has.all_rows first in
    absurd (passed_not_refused tests before row front.0 (has.titles ∷ has.rows) why
    (sym (append_assoc before (row ∷ []) front.0) ∙ front.1) (has.are_titles, log, has.accepted) refuses)

-- accepted rows name tests
rows_name : (tests : ℕ) (rows : List Row) (log : List LogRow) → AreLogRows tests rows log → AllByRecursion (NamesTest tests) log
rows_name tests [] [] accepted = tt
rows_name tests [] (said ∷ log) accepted = absurd accepted
rows_name tests (row ∷ rows) [] accepted = tt
rows_name tests (row ∷ rows) (said ∷ log) accepted =
    (record { positive = accepted.0.test.positive; within = accepted.0.test.within }, rows_name tests rows log accepted.1)

pub log_names : (tests : ℕ) (bytes : List ℕ) (log : List LogRow) → IsLog tests bytes log → All (NamesTest tests) log
log_names tests bytes log has = All-from_recursion (NamesTest tests) log (rows_name tests has.rows log has.accepted)
