-- Each turn takes the row that csv read; a row that is refused, or the end of the file, ends it.
use Rattle.std.proofs.Common.{◌∙◌, refl, arith}
use Rattle.std.proofs.lemmas.Result.{err_from_is_err_and}
use Rattle.delay_annotation.proofs.Gathering.{all_taken, few_taken, has_read_none, none_taken, read_refused, read_taken}
use Rattle.delay_annotation.proofs.rows.take_rows.Goals as goal

pub loop-row-init : goal.loop-row-init
loop-row-init c =
    let reader = c.from_reader-reader.ensures in
    let plain = c.has_headers.ensures in
    let flexible = c.flexible.ensures in
    let start = c.into_iter-row-iterator.ensures.into_iter_gives ∙ refl in
    let rdr = c.into_byte_records-row-items.ensures.rdr in
    let left = c.into_byte_records-row-items.ensures.left in
    rw (start, rdr) (record {
      goes_on = left;
      has = record {
        places = c.requires.places;
        rows = _;
        read = has_read_none c.args.bytes.now c.from_reader-reader.result
            (rw (flexible, plain) at reader.trim ∙ c.new.ensures.trim) (rw (flexible, plain) at reader.has_headers)
            reader.headers (rw (flexible, plain) at reader.config ∙ c.new.ensures.config) reader.source reader.state;
        taken = c.requires.none;
        count = refl;
      };
    })

pub overflow_add-number : goal.overflow_add-number
overflow_add-number c =
    let few = few_taken c.args.net.now c.args.columns c.args.bytes.now c.loop-row.row-iterator.rdr c.next.new.self.rdr c.loop-row.number
    c.loop-row.kept c.loop-row.invariant.has in
    omega (arith, few, c.requires.short)

pub take_read-requires : goal.take_read-requires
take_read-requires c = c.loop-row.invariant.has.places

pub returns-in_err-take_read-clause-takes : goal.returns-in_err-take_read-clause-takes
returns-in_err-take_read-clause-takes c =
    let inv = c.loop-row.invariant in
    let step = rw c.in-Some.is at ((c.next.ensures.steps inv.goes_on inv.has.read.trim).0 inv.has.read.ready) in
    let answer = err_from_is_err_and c.from_residual.result c.from_residual.ensures.1 in
    rw (answer.1, answer.2) (read_refused c.args.net.now c.args.columns c.args.bytes.now c.loop-row.row-iterator.rdr c.next.new.self.rdr
    c.loop-row.number c.loop-row.kept inv.has c.next.new.self.left c.in-Some.row c.in_err-take_read.field-0.0 step
    c.in_err-take_read.ensures.err)

pub loop-row-preserved : goal.loop-row-preserved
loop-row-preserved c =
    let inv = c.loop-row.invariant in
    let step = rw c.in-Some.is at ((c.next.ensures.steps inv.goes_on inv.has.read.trim).0 inv.has.read.ready) in
    let more = read_taken c.args.net.now c.args.columns c.args.bytes.now c.loop-row.row-iterator.rdr c.next.new.self.rdr c.loop-row.number
    c.loop-row.kept inv.has c.next.new.self.left c.in-Some.row c.take_read.new.kept step c.take_read.ensures.places c.in_ok-take_read.ensures.ok in
    record { goes_on = more.0; has = more.1 }

pub returns-then-number-eq0-clause-places : goal.returns-then-number-eq0-clause-places
returns-then-number-eq0-clause-places c = c.loop-row.invariant.has.places

pub returns-then-number-eq0-clause-takes : goal.returns-then-number-eq0-clause-takes
returns-then-number-eq0-clause-takes c =
    let inv = c.loop-row.invariant in
    let step = rw c.in-None.is at ((c.next.ensures.steps inv.goes_on inv.has.read.trim).0 inv.has.read.ready) in
    none_taken c.args.net.now c.args.columns c.args.bytes.now c.loop-row.row-iterator.rdr c.next.new.self.rdr c.loop-row.number
    c.loop-row.kept inv.has c.if-number-eq0.true step

pub returns-clause-places : goal.returns-clause-places
returns-clause-places c = c.loop-row.invariant.has.places

pub returns-clause-takes : goal.returns-clause-takes
returns-clause-takes c =
    let inv = c.loop-row.invariant in
    let step = rw c.in-None.is at ((c.next.ensures.steps inv.goes_on inv.has.read.trim).0 inv.has.read.ready) in
    all_taken c.args.net.now c.args.columns c.args.bytes.now c.loop-row.row-iterator.rdr c.next.new.self.rdr c.loop-row.number
    c.loop-row.kept inv.has c.if-number-eq0.false step
