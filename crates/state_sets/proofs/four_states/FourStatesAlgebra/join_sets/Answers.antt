-- The set read from the table of the operation has exactly the joins.
use Rattle.state_sets.specs.FourStates.{four_states}
use Rattle.state_sets.specs.FourLaws.{four_laws}
use Rattle.state_sets.proofs.OpTables.{joins_place, joins_within, are_joins}
use Rattle.state_sets.proofs.FourTables.{four_tables, four_tables_are}
use Rattle.state_sets.proofs.four_states.FourStatesAlgebra.join_sets.Goals as goal

pub number_at-requires : goal.number_at-requires
number_at-requires c = joins_place four_states four_laws four_tables four_tables_are c.args.op c.args.a c.args.b c.requires.first c.requires.second c.table_of-table.result.now c.table_of-table.ensures

pub returns-clause-within : goal.returns-clause-within
returns-clause-within c =
    joins_within four_states four_laws four_tables four_tables_are c.args.op c.args.a c.args.b c.requires.first c.requires.second c.table_of-table.result.now c.table_of-table.ensures
    c.number_at.result c.number_at.ensures

pub returns-clause-joins : goal.returns-clause-joins
returns-clause-joins c =
    are_joins four_states four_laws four_tables four_tables_are c.args.op c.args.a c.args.b c.requires.first c.requires.second c.table_of-table.result.now c.table_of-table.ensures
    c.number_at.result c.number_at.ensures
