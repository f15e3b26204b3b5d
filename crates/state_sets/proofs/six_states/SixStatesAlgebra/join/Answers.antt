-- The state read from the table of the operation is the join.
use Rattle.state_sets.specs.SixStates.{six_states}
use Rattle.state_sets.specs.SixLaws.{six_laws}
use Rattle.state_sets.proofs.OpTables.{states_place, is_join}
use Rattle.state_sets.proofs.SixTables.{six_tables, six_tables_are}
use Rattle.state_sets.proofs.six_states.SixStatesAlgebra.join.Goals as goal

pub number_at-requires : goal.number_at-requires
number_at-requires c = states_place six_states six_laws six_tables six_tables_are c.args.op c.args.a c.args.b c.requires.first c.requires.second c.table_of-table.result.now c.table_of-table.ensures

pub returns : goal.returns
returns c =
    is_join six_states six_laws six_tables six_tables_are c.args.op c.args.a c.args.b c.requires.first c.requires.second c.table_of-table.result.now c.table_of-table.ensures
    c.number_at.result c.number_at.ensures
