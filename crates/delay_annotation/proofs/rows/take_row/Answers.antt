-- An accepted row is kept.
use Rattle.csv.specs.Records.{fields_of}
use Rattle.delay_annotation.proofs.Fields.{setting_of_circuit, setting_within}
use Rattle.delay_annotation.proofs.Taken.{takes_setting}
use Rattle.delay_annotation.proofs.rows.take_row.Goals as goal

pub take-requires-clause-pins : goal.take-requires-clause-pins
take-requires-clause-pins c =
    setting_of_circuit c.args.net.now c.args.columns (fields_of c.args.row.now) c.in-Ok.setting c.in-Ok.ensures

pub returns-in-Ok-clause-ok : goal.returns-in-Ok-clause-ok
returns-in-Ok-clause-ok c =
    takes_setting c.args.net.now c.args.columns c.args.number (fields_of c.args.row.now) c.in-Ok.setting c.args.kept.now c.take.new.self
    c.if-number-eq1.false c.in-Ok.ensures c.take.ensures.takes

pub take-requires-clause-bounded : goal.take-requires-clause-bounded
take-requires-clause-bounded c =
    setting_within c.args.net.now c.args.columns (fields_of c.args.row.now) c.in-Ok.setting c.in-Ok.ensures
