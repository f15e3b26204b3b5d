-- A row that has not three fields is refused.
use Rattle.delay_bounds.specs.LogRows.RefusesRow.{other_count}
use Rattle.delay_bounds.proofs.reading.read_fields.Goals as goal

pub returns-in_default : goal.returns-in_default
returns-in_default c = other_count c.in_default.ensures
