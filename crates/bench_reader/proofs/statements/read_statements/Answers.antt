-- Each line is gathered, or refuses the text.
use Rattle.std.proofs.lemmas.Result.{err_from_is_err_and}
use Rattle.bench_reader.proofs.Gathering.{gathers_line, gathers_refusal}
use Rattle.bench_reader.proofs.statements.read_statements.Goals as goal

pub returns-in_err-read_statement : goal.returns-in_err-read_statement
returns-in_err-read_statement c =
    let answer = err_from_is_err_and c.from_residual.result c.from_residual.ensures.1 in
    rw (answer.1, answer.2)
    (gathers_refusal c.args.bytes.now c.split_line.result.0.now c.split_line.result.1.now c.loop-rest.rest.now c.loop-rest.number
    c.loop-rest.raw c.in_err-read_statement.field-0.0 c.loop-rest.invariant c.split_line.ensures.lines c.in_err-read_statement.ensures.err)

pub loop-rest-preserved : goal.loop-rest-preserved
loop-rest-preserved c =
    gathers_line c.args.bytes.now c.split_line.result.0.now c.split_line.result.1.now c.loop-rest.rest.now c.loop-rest.number
    c.loop-rest.raw c.read_statement.new.raw c.loop-rest.invariant c.split_line.ensures.lines c.in_ok-read_statement.ensures.ok
    c.split_line.ensures.shorter
