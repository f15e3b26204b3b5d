-- A row that has another number of fields than the titles is refused.
use Rattle.delay_annotation.specs.Rows.RefusesRow.{other_count}
use Rattle.delay_annotation.proofs.rows.read_fields.Goals as goal

pub returns-in-None : goal.returns-in-None
returns-in-None c = rw c.in-Delay.is (other_count c.in-None.ensures)

pub returns-in-None-four_fields : goal.returns-in-None-four_fields
returns-in-None-four_fields c = rw c.in-RiseAndFall.is (other_count c.in-None-four_fields.ensures)
