-- The line says what its listed tokens say, or that one is too long; and what it states is lawful.
use Rattle.std.proofs.Common.{◌∙◌, ap, sym, subst, cond, Err}
use Rattle.bench_reader.specs.declared.line_fault.LineFault.TheVariants.{NameTooLong}
use Rattle.bench_reader.specs.Seen.{IsReading, tokens_seen}
use Rattle.bench_reader.specs.Statements.{Reading, tokens_reading}
use Rattle.bench_reader.proofs.LineReadings.{lawful_listed, listed_line}
use Rattle.bench_reader.proofs.line.read_line.Goals as goal

pub returns-then-has_long_name-clause-reading : goal.returns-then-has_long_name-clause-reading
returns-then-has_long_name-clause-reading c =
    let tokens = c.list_tokens.new.tokens.items in
    let long = rw c.deref.ensures.value at c.has_long_name.ensures in
    listed_line c.args.line.now tokens c.has_long_name.result c.in_ok-list_tokens.ensures.ok.0 c.in_ok-list_tokens.ensures.ok.1 long
    ∙ ap (λ is. cond is (Err NameTooLong) (tokens_reading (tokens_seen tokens))) c.if-has_long_name.true

pub returns-clause-reading : goal.returns-clause-reading
returns-clause-reading c =
    let tokens = c.list_tokens.new.tokens.items in
    let long = rw c.deref.ensures.value at c.has_long_name.ensures in
    let says =
    listed_line c.args.line.now tokens c.has_long_name.result c.in_ok-list_tokens.ensures.ok.0 c.in_ok-list_tokens.ensures.ok.1 long
    ∙ ap (λ is. cond is (Err NameTooLong) (tokens_reading (tokens_seen tokens))) c.if-has_long_name.false in
    let reading = rw c.deref-2.ensures.value at c.read_tokens.ensures in
    let P : Reading → Type 0 = λ reading. IsReading c.read_tokens.new.arguments.items c.read_tokens.result reading in
    subst P (sym says) reading

pub returns-clause-lawful : goal.returns-clause-lawful
returns-clause-lawful c =
    let tokens = c.list_tokens.new.tokens.items in
    let long = rw c.deref.ensures.value at c.has_long_name.ensures in
    let reading = rw c.deref-2.ensures.value at c.read_tokens.ensures in
    lawful_listed c.args.line.now tokens c.read_tokens.new.arguments.items c.read_tokens.result c.in_ok-list_tokens.ensures.ok.1
    (sym c.if-has_long_name.false ∙ long) reading
