-- Each turn takes the row that csv read; a row that is refused, or the end of the file, ends it.
use Rattle.std.proofs.Common.{Bor, Bool, ◌≡◌, ℕ, ◌+◌, true, List, Some, ◌∙◌, refl, subst, arith}
use Rattle.std.proofs.lemmas.Result.{err_from_is_err_and}
use Rattle.csv.specs.Reading.{ReadRecord}
use Rattle.csv.specs.Records.{fields_of}
use Rattle.delay_annotation.specs.DelayFile.{Row}
use Rattle.delay_annotation.proofs.Gathering.{BytesReader, has_read_none}
use Rattle.delay_bounds.proofs.Gathering.{HasTaken, few_taken, taken_more, taken_refused}
use Rattle.delay_bounds.proofs.reading.csv_log.Goals as goal

pub rows-init : goal.rows-init
rows-init c =
    let reader = c.from_reader-reader.ensures in
    let plain = c.has_headers.ensures in
    let flexible = c.flexible.ensures in record {
      has = record {
        rows = _;
        read = has_read_none c.args.bytes.now c.from_reader-reader.result
            (rw (flexible, plain) at reader.trim ∙ c.new.ensures.trim) (rw (flexible, plain) at reader.has_headers)
            reader.headers (rw (flexible, plain) at reader.config ∙ c.new.ensures.config) reader.source reader.state;
        taken = c.new-log.ensures.items;
        count = refl;
      };
    }

pub overflow_add-number : goal.overflow_add-number
overflow_add-number c =
    let few = few_taken c.args.tests c.args.bytes.now c.rows.reader c.read_next.new.reader c.rows.number c.rows.log.items c.rows.invariant.has in
    omega (arith, few, c.requires)

-- csv read a row where it says so
found_one : (a b : BytesReader) (found : Bool) (row : Row) → found ≡ true → ReadRecord (λ (s : Bor (List ℕ)). Some s.now) a b found row
    → ReadRecord (λ (s : Bor (List ℕ)). Some s.now) a b true row
found_one a b found row is read = subst (λ told. ReadRecord (λ (s : Bor (List ℕ)). Some s.now) a b told row) is read

pub rows-preserved : goal.rows-preserved
rows-preserved c = record {
  has = taken_more c.args.tests c.args.bytes.now c.rows.reader c.read_next.new.reader c.rows.number c.rows.log.items c.rows.invariant.has
      (fields_of c.read_next.new.row) c.take_row.new.log.items
      (found_one c.rows.reader c.read_next.new.reader c.in_ok-read_next.field-0 (fields_of c.read_next.new.row) c.if-branch.true
      c.in_ok-read_next.ensures.reads) c.in_ok-read_next.ensures.first c.in_ok-take_row.ensures.ok;
}

pub rows-smaller : goal.rows-smaller
rows-smaller c =
    let more : HasTaken c.args.tests c.args.bytes.now c.read_next.new.reader (c.rows.number + 1) c.take_row.new.log.items =
    taken_more c.args.tests c.args.bytes.now c.rows.reader c.read_next.new.reader c.rows.number c.rows.log.items c.rows.invariant.has
    (fields_of c.read_next.new.row) c.take_row.new.log.items
    (found_one c.rows.reader c.read_next.new.reader c.in_ok-read_next.field-0 (fields_of c.read_next.new.row) c.if-branch.true
    c.in_ok-read_next.ensures.reads) c.in_ok-read_next.ensures.first c.in_ok-take_row.ensures.ok in
    let few = few_taken c.args.tests c.args.bytes.now c.read_next.new.reader c.read_next.new.reader (c.rows.number + 1) c.take_row.new.log.items more in
    omega (arith, few)

pub returns-in_err-take_row-clause-refused : goal.returns-in_err-take_row-clause-refused
returns-in_err-take_row-clause-refused c =
    let answer = err_from_is_err_and c.from_residual-in_err-take_row.result c.from_residual-in_err-take_row.ensures.1 in
    rw (answer.1, answer.2) (taken_refused c.args.tests c.args.bytes.now c.rows.reader c.read_next.new.reader c.rows.number c.rows.log.items
    c.rows.invariant.has (fields_of c.read_next.new.row) c.in_err-take_row.field-0.0
    (found_one c.rows.reader c.read_next.new.reader c.in_ok-read_next.field-0 (fields_of c.read_next.new.row) c.if-branch.true
    c.in_ok-read_next.ensures.reads)
    c.in_ok-read_next.ensures.first c.in_err-take_row.ensures.err)
