-- The state read from the table of the operation is the join.
use Rattle.state_sets.specs.FourStates.{four_states}
use Rattle.state_sets.specs.FourLaws.{four_laws}
use Rattle.state_sets.proofs.OpTables.{states_place, is_join}
use Rattle.state_sets.proofs.FourTables.{four_tables, four_tables_are}
use Rattle.state_sets.proofs.four_states.FourStatesAlgebra.join.Goals as goal

pub number_at-requires : goal.number_at-requires
number_at-requires c = states_place four_states four_laws four_tables four_tables_are c.args.op c.args.a c.args.b c.requires.first c.requires.second c.table_of-table.result.now c.table_of-table.ensures

pub returns : goal.returns
returns c =
    is_join four_states four_laws four_tables four_tables_are c.args.op c.args.a c.args.b c.requires.first c.requires.second c.table_of-table.result.now c.table_of-table.ensures
    c.number_at.result c.number_at.ensures
