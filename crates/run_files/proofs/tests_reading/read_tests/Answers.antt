-- What is answered of the headings, or of the lines behind them, is answered of the file.
use Rattle.std.proofs.lemmas.Result.{err_from_is_err_and}
use Rattle.run_files.proofs.TestFiles.{file_answer, no_headings_answer}
use Rattle.run_files.proofs.tests_reading.read_tests.Goals as goal

pub returns-in_err-lines : goal.returns-in_err-lines
returns-in_err-lines c =
    let answer = err_from_is_err_and c.from_residual.result c.from_residual.ensures.1 in
    rw (answer.1, answer.2) (no_headings_answer c.args.net.now c.args.bytes.now c.in_err-lines.field-0.0 c.in_err-lines.ensures.reads)

pub returns : goal.returns
returns c =
    file_answer c.args.net.now c.args.bytes.now c.in_ok-lines.lines.now c.read_test_lines.result c.in_ok-lines.ensures.reads c.read_test_lines.ensures
