-- The first line that is refused, or want of memory, is told as it is.
use Rattle.std.proofs.lemmas.Result.{err_from_is_err_and}
use Rattle.bench_reader.proofs.Answering.{answers_refusal}
use Rattle.bench_reader.proofs.reading.read_bench.Goals as goal

pub returns-in_err-raw-clause-refused : goal.returns-in_err-raw-clause-refused
returns-in_err-raw-clause-refused c =
    let answer = err_from_is_err_and c.from_residual.result c.from_residual.ensures.1 in
    rw (answer.1, answer.2) (answers_refusal c.args.bytes.now c.in_err-raw.field-0.0 c.in_err-raw.ensures)
