-- The set read from the table of the operation has exactly the states that support the target.
use Rattle.state_sets.specs.SixStates.{six_states}
use Rattle.state_sets.specs.SixLaws.{six_laws}
use Rattle.state_sets.proofs.OpTables.{supports_place, supports_within, are_supporting}
use Rattle.state_sets.proofs.SixTables.{six_tables, six_tables_are}
use Rattle.state_sets.proofs.six_states.SixStatesAlgebra.supporting.Goals as goal

pub number_at-requires : goal.number_at-requires
number_at-requires c =
    supports_place six_states six_laws six_tables six_tables_are c.args.op c.args.rest c.args.target c.requires.rest c.requires.target c.table_of-table.result.now c.table_of-table.ensures

pub returns-clause-within : goal.returns-clause-within
returns-clause-within c =
    supports_within six_states six_laws six_tables six_tables_are c.args.op c.args.rest c.args.target c.requires.rest c.requires.target c.table_of-table.result.now
    c.table_of-table.ensures c.number_at.result c.number_at.ensures

pub returns-clause-supports : goal.returns-clause-supports
returns-clause-supports c =
    are_supporting six_states six_laws six_tables six_tables_are c.args.op c.args.rest c.args.target c.requires.rest c.requires.target c.table_of-table.result.now
    c.table_of-table.ensures c.number_at.result c.number_at.ensures
