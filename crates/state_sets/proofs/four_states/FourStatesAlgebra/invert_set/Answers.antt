-- The table has exactly the inversions.
use Rattle.std.proofs.Common.{refl}
use Rattle.state_sets.specs.FourStates.{four_states}
use Rattle.state_sets.specs.FourLaws.{four_laws}
use Rattle.state_sets.proofs.OpTables.{inversions_within, are_inversions}
use Rattle.state_sets.proofs.FourTables.{four_tables, four_tables_are}
use Rattle.state_sets.proofs.four_states.FourStatesAlgebra.invert_set.Goals as goal

pub returns-clause-within : goal.returns-clause-within
returns-clause-within c = inversions_within four_states four_laws four_tables four_tables_are c.args.set c.requires _ refl

pub returns-clause-inverts : goal.returns-clause-inverts
returns-clause-inverts c = are_inversions four_states four_laws four_tables four_tables_are c.args.set c.requires _ refl
