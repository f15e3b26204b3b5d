-- The rows of a file while csv reads them, and what was taken of them when a row is refused or the file ends.
use Rattle.std.proofs.Common.{Bor, ◌≡◌, ◌≢◌, inl, inr, ℕ, ◌+◌, ◌≤◌, length-append, true, false, List, [], ◌∷◌, ◌++◌, length, ◌<◌, Some, None, refl, sym, ap, ◌∙◌, arith}
use Rattle.std.specs.Prelude.{Result, Ok, Err, MatchResult}
use Rattle.pd_base.specs.Memory.{out_of_memory}
use Rattle.csv.specs.Reading.{ReadRecord, Reached, Ready, default_config, names_headers, reader_config, reader_headers, reader_state, reader_trim, source_of, strip_bom, RowStep}
use Rattle.csv.specs.Records.{Row as Record, fields_of}
use Rattle.csv.specs.declared.error.Error.{Error}
use Rattle.csv.specs.declared.reader.Reader.{Reader}
use Rattle.csv.specs.declared.reader.Trim.TheVariants as trim
use Rattle.csv.specs.declared.parser.State.TheVariants as st
use Rattle.csv.proofs.ReadFacts.{rows-end, rows-more}
use Rattle.netlist.specs.Circuit.{Circuit}
use Rattle.delay_annotation.specs.DelayFile.{AreAllRows, AreFirstRows, RefusesFile, Row}
use Rattle.delay_annotation.specs.DelayFile.RefusesFile.{no_memory, no_row, row_refused}
use Rattle.delay_annotation.specs.declared.setting.Columns.{Columns}
use Rattle.delay_annotation.specs.LastRows.{HasRoomForRows}
use Rattle.delay_annotation.specs.Taking.{AreTaken, IsFileTaken, RefusesTaken, TakesRow}
use Rattle.delay_annotation.specs.declared.fault.DelayFault.{DelayFault}
use Rattle.delay_annotation.specs.declared.fault.DelayFault.TheVariants as fault
use Rattle.delay_annotation.specs.declared.last.LastRows.{LastRows}
use Rattle.delay_annotation.proofs.FirstRows.{few_rows}
use Rattle.delay_annotation.proofs.Taken.{taken_passed}

-- a reader of bytes in memory
abbrev pub BytesReader : Type 0
BytesReader = Reader (Bor (List ℕ))

-- it has read these first rows of the file
pub record HasRead (bytes : List ℕ) (rows : List Row) (reader : BytesReader) : Type 0 where
  pub trim : reader_trim reader ≡ trim.None
  pub ready : Ready reader
  pub config : reader_config reader ≡ default_config
  pub rest : List ℕ
  pub source : source_of (λ s. Some s.now) reader ≡ Some rest
  pub reached : Reached default_config st.StartRecord (strip_bom bytes) rows (reader_state reader) rest

-- none at first
pub has_read_none : (bytes : List ℕ) (reader : BytesReader) → reader_trim reader ≡ trim.None → names_headers reader ≡ false
    → reader_headers reader ≡ None → reader_config reader ≡ default_config
    → source_of (λ s. Some s.now) reader ≡ Some (strip_bom bytes) → reader_state reader ≡ st.StartRecord → HasRead bytes [] reader
unfolding Reached
has_read_none bytes reader no_trim no_names no_headers config source state = record {
  trim = no_trim;
  ready = inr (inr (no_names, no_headers));
  config = config;
  rest = strip_bom bytes;
  source = source;
  reached = (sym state, refl);
}

-- the rows so far are the first
pub read_first : (bytes : List ℕ) (rows : List Row) (reader : BytesReader) → HasRead bytes rows reader → AreFirstRows bytes rows
read_first bytes rows reader has = (reader_state reader, has.rest, has.reached)

-- one row more
pub has_read_more : (bytes : List ℕ) (rows : List Row) (row : Row) (a b : BytesReader) → HasRead bytes rows a
    → ReadRecord (λ (s : Bor (List ℕ)). Some s.now) a b true row → b.first ≡ true → HasRead bytes (rows ++ row ∷ []) b
has_read_more bytes rows row a b has read first =
    let more = rows-more (λ (s : Bor (List ℕ)). Some s.now) a b row default_config st.StartRecord (strip_bom bytes) has.rest rows
    has.config has.source has.reached read in
    record {
      trim = read.3 ∙ has.trim;
      ready = inl first;
      config = read.2 ∙ has.config;
      rest = more.0;
      source = more.1;
      reached = more.2;
    }

-- and no more
pub has_read_all : (bytes : List ℕ) (rows : List Row) (a b : BytesReader) → HasRead bytes rows a
    → ReadRecord (λ (s : Bor (List ℕ)). Some s.now) a b false [] → AreAllRows bytes rows
has_read_all bytes rows a b has read = (
  reader_state a,
  has.rest,
  has.reached,
  rows-end (λ (s : Bor (List ℕ)). Some s.now) a b [] default_config has.rest has.config has.source read,
)

-- the rows so far were read and taken, and this is their number
pub record HasTaken (c : Circuit) (columns : Columns) (bytes : List ℕ) (reader : BytesReader) (number : ℕ) (kept : LastRows) : Type 0 where
  pub places : HasRoomForRows c kept
  pub rows : List Row
  pub read : HasRead bytes rows reader
  pub taken : AreTaken c columns rows kept
  pub count : number ≡ length rows

module _ (c : Circuit) (columns : Columns) (bytes : List ℕ) (a b : BytesReader) (number : ℕ) (kept : LastRows)
    (has : HasTaken c columns bytes a number kept) where
  -- there are no more than bytes
  pub few_taken : number ≤ length bytes
  few_taken = omega (arith, has.count, few_rows bytes has.rows (read_first bytes has.rows a has.read))

  -- one row more is taken
  pub taken_more : (row : Row) (new : LastRows) → ReadRecord (λ (s : Bor (List ℕ)). Some s.now) a b true row → b.first ≡ true
      → HasRoomForRows c new → TakesRow c columns (number + 1) row kept new → HasTaken c columns bytes b (number + 1) new
  taken_more row new read first places takes = record {
    places = places;
    rows = has.rows ++ row ∷ [];
    read = has_read_more bytes has.rows row a b has.read read first;
    taken = takes has.rows (ap (λ n. n + 1) has.count) has.taken;
    count = omega (arith, has.count, length-append has.rows (row ∷ []));
  }

  -- a row is refused
  pub taken_refused : (row : Row) (why : DelayFault) → ReadRecord (λ (s : Bor (List ℕ)). Some s.now) a b true row
      → b.first ≡ true → RefusesTaken c columns (number + 1) row kept why → RefusesFile c columns bytes why
  taken_refused row why read first refuses =
      row_refused has.rows row
      (read_first bytes (has.rows ++ row ∷ []) b (has_read_more bytes has.rows row a b has.read read first))
      (taken_passed c columns has.rows kept has.taken) (refuses has.rows (ap (λ n. n + 1) has.count) has.taken)

  -- the file has no row
  pub none_taken : number ≡ 0 → ReadRecord (λ (s : Bor (List ℕ)). Some s.now) a b false [] → RefusesFile c columns bytes fault.Header
  none_taken none read = by has.rows (has_read_all bytes has.rows a b has.read read) (omega (arith, has.count))
    where
      by : (rows : List Row) → AreAllRows bytes rows → length rows ≡ 0 → RefusesFile c columns bytes fault.Header
      by [] all empty = no_row all refl
      by (row ∷ rows) all empty = absurd (omega arith)

  -- all rows are taken
  pub all_taken : number ≢ 0 → ReadRecord (λ (s : Bor (List ℕ)). Some s.now) a b false [] → IsFileTaken c columns bytes kept
  all_taken some read = record {
    rows = has.rows;
    all_rows = has_read_all bytes has.rows a b has.read read;
    some = omega (arith, has.count, some);
    taken = has.taken;
  }

  -- what csv read is one row more, where it is taken
  pub read_taken : (left : ℕ) (read : Result Record Error) (new : LastRows)
      → RowStep (λ (s : Bor (List ℕ)). Some s.now) a b left (Some read) → HasRoomForRows c new
      → MatchResult read (λ row. TakesRow c columns (number + 1) (fields_of row) kept new) (λ _. ⊥)
      → (0 < left) × HasTaken c columns bytes b (number + 1) new
  read_taken left (Ok row) new step places takes = (step.2, taken_more (fields_of row) new step.0 step.1 places takes)
  read_taken left (Err fault) new step places takes = absurd takes

  -- and the file is refused, where it is not
  pub read_refused : (left : ℕ) (read : Result Record Error) (why : DelayFault)
      → RowStep (λ (s : Bor (List ℕ)). Some s.now) a b left (Some read)
      → MatchResult read (λ row. RefusesTaken c columns (number + 1) (fields_of row) kept why) (λ _. why ≡ fault.NoMemory out_of_memory)
      → RefusesFile c columns bytes why
  read_refused left (Ok row) why step refuses = taken_refused (fields_of row) why step.0 step.1 refuses
  read_refused left (Err error) why step refuses = no_memory refuses
