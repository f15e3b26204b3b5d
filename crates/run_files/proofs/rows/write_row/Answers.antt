-- What csv wrote is the row's line, since no field calls for quotes.
use Rattle.std.proofs.lemmas.List.{length-map}
use Rattle.run_files.specs.ReportRows.{texts_of}
use Rattle.run_files.proofs.CsvRows.{row_written}
use Rattle.run_files.proofs.rows.write_row.Goals as goal

pub returns-in-Ok-clause-text : goal.returns-in-Ok-clause-text
returns-in-Ok-clause-text c =
    row_written c.args.rows.now c.write_fields.new.self (texts_of c.args.fields.now) c.requires.ready (rw length-map c.requires.several)
    c.requires.plain c.in-Ok.ensures.bytes
