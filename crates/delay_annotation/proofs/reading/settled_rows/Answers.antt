-- All rows were taken, and each pin was settled.
use Rattle.pd_base.specs.declared.fault.Direction.TheVariants.{Rise}
use Rattle.delay_annotation.specs.declared.setting.Columns.TheVariants as columns
use Rattle.delay_annotation.proofs.Settled.{delays_had}
use Rattle.delay_annotation.proofs.reading.settled_rows.Goals as goal

pub returns-clause-delays : goal.returns-clause-delays
returns-clause-delays c =
    delays_had c.args.net.now c.take_rows.new.kept Rise columns.Delay c.args.bytes.now c.in_ok-settle.field-0
    c.in_ok-take_rows.ensures.takes c.in_ok-settle.ensures.last
