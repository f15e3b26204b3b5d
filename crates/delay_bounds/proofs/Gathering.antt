-- The rows of a log while csv reads them, and what was taken of them when a row is refused or the file ends.
use Rattle.std.proofs.Common.{Bor, ◌≡◌, ◌≢◌, ℕ, ◌+◌, ◌≤◌, length-append, true, false, List, [], ◌∷◌, ◌++◌, length, Some, refl, ap, arith}
use Rattle.csv.specs.Reading.{ReadRecord, default_config, reader_state}
use Rattle.csv.proofs.ReadFacts.{rows-end}
use Rattle.delay_annotation.specs.DelayFile.{AreAllRows, Row}
use Rattle.delay_annotation.proofs.FirstRows.{few_rows}
use Rattle.delay_annotation.proofs.Gathering.{BytesReader, HasRead, has_read_more, read_first}
use Rattle.delay_bounds.specs.LogFile.{IsLog, RefusesLog}
use Rattle.delay_bounds.specs.LogFile.RefusesLog.{no_memory, no_row, row_refused}
use Rattle.delay_bounds.specs.Inside.Taking.{AreTaken, FailsToTake, TakesRow}
use Rattle.delay_bounds.specs.Inside.Taking.FailsToTake.{refused, no_memory as lacks_memory}
use Rattle.delay_bounds.specs.declared.log_fault.LogFault.{LogFault}
use Rattle.delay_bounds.specs.declared.log_fault.LogFault.TheVariants as fault
use Rattle.delay_bounds.specs.declared.log_row.LogRow.{LogRow}
use Rattle.delay_bounds.proofs.Taken.{taken_passed}

-- where csv read no further row, whatever it left of the last one, these are all
read_all : (bytes : List ℕ) (rows : List Row) (a b : BytesReader) (left : Row) → HasRead bytes rows a
    → ReadRecord (λ (s : Bor (List ℕ)). Some s.now) a b false left → AreAllRows bytes rows
read_all bytes rows a b left has read = (
  reader_state a,
  has.rest,
  has.reached,
  rows-end (λ (s : Bor (List ℕ)). Some s.now) a b left default_config has.rest has.config has.source read,
)

-- the rows so far were read and taken, and this is their number
pub record HasTaken (tests : ℕ) (bytes : List ℕ) (reader : BytesReader) (number : ℕ) (log : List LogRow) : Type 0 where
  pub rows : List Row
  pub read : HasRead bytes rows reader
  pub taken : AreTaken tests rows log
  pub count : number ≡ length rows

module _ (tests : ℕ) (bytes : List ℕ) (a b : BytesReader) (number : ℕ) (log : List LogRow)
    (has : HasTaken tests bytes a number log) where
  -- there are no more than bytes
  pub few_taken : number ≤ length bytes
  few_taken = omega (arith, has.count, few_rows bytes has.rows (read_first bytes has.rows a has.read))

  -- one row more is taken
  pub taken_more : (row : Row) (new : List LogRow) → ReadRecord (λ (s : Bor (List ℕ)). Some s.now) a b true row → b.first ≡ true
      → TakesRow tests (number + 1) row log new → HasTaken tests bytes b (number + 1) new
  taken_more row new read first takes = record {
    rows = has.rows ++ row ∷ [];
    read = has_read_more bytes has.rows row a b has.read read first;
    taken = takes has.rows (ap (λ n. n + 1) has.count) has.taken;
    count = omega (arith, has.count, length-append has.rows (row ∷ []));
  }

  -- a row is not taken
  pub taken_refused : (row : Row) (why : LogFault) → ReadRecord (λ (s : Bor (List ℕ)). Some s.now) a b true row
      → b.first ≡ true → FailsToTake tests (number + 1) row log why → RefusesLog tests bytes why
  taken_refused row why read first (refused refuses) =
      row_refused has.rows row
      (read_first bytes (has.rows ++ row ∷ []) b (has_read_more bytes has.rows row a b has.read read first))
      (taken_passed tests has.rows log has.taken) (refuses has.rows (ap (λ n. n + 1) has.count) has.taken)
  taken_refused row why read first (lacks_memory is) = no_memory is

  -- the file has no row
  pub none_taken : number ≡ 0 → (left : Row) → ReadRecord (λ (s : Bor (List ℕ)). Some s.now) a b false left → RefusesLog tests bytes fault.Header
  none_taken none left read = by has.rows (read_all bytes has.rows a b left has.read read) (omega (arith, has.count))
    where
      by : (rows : List Row) → AreAllRows bytes rows → length rows ≡ 0 → RefusesLog tests bytes fault.Header
      by [] all empty = no_row all refl
      by (row ∷ rows) all empty = absurd (omega arith)

  -- all rows are taken
  pub all_taken : number ≢ 0 → (left : Row) → ReadRecord (λ (s : Bor (List ℕ)). Some s.now) a b false left → IsLog tests bytes log
  all_taken some left read = by has.rows (read_all bytes has.rows a b left has.read read) has.taken (λ none. some (omega (arith, has.count, none)))
    where
      by : (rows : List Row) → AreAllRows bytes rows → AreTaken tests rows log → (length rows ≡ 0 → ⊥) → IsLog tests bytes log
      by [] all taken none = absurd (none refl)
      by (titles ∷ rows) all (are, accepted) none = record {
        titles = titles;
        rows = rows;
        all_rows = all;
        are_titles = are;
        accepted = accepted;
      }
