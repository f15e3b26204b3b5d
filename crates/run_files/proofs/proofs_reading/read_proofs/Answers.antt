-- What is answered of the version, or of the lines behind it, is answered of the file.
use Rattle.std.proofs.lemmas.Result.{err_from_is_err_and}
use Rattle.run_files.proofs.ProofFiles.{lines_fault_answer, no_version_answer, proofs_read}
use Rattle.run_files.proofs.proofs_reading.read_proofs.Goals as goal

pub returns-in_default : goal.returns-in_default
returns-in_default c = no_version_answer c.args.net.now c.args.bytes.now c.in_default.ensures.reads

pub returns-in_err-proofs : goal.returns-in_err-proofs
returns-in_err-proofs c =
    let answer = err_from_is_err_and c.from_residual.result c.from_residual.ensures.1 in
    rw (answer.1, answer.2)
    (lines_fault_answer c.args.net.now c.args.bytes.now c.in-Some.version c.in-Some.lines.now c.in-Some.ensures.reads c.in_err-proofs.field-0.0 c.in_err-proofs.ensures)

pub returns : goal.returns
returns c = (
  c.in-Some.version,
  c.number.ensures,
  proofs_read c.args.net.now c.args.bytes.now c.in-Some.version c.in-Some.lines.now c.in-Some.ensures.reads c.in_ok-proofs.proofs.items c.in_ok-proofs.ensures,
)
