-- The names of the columns call for no quotes.
use Rattle.run_files.proofs.PlainTexts.{header_plain}
use Rattle.run_files.proofs.rows.write_header.Goals as goal

pub write_row-requires-clause-plain : goal.write_row-requires-clause-plain
write_row-requires-clause-plain c = header_plain
