-- The table has exactly the inversions.
use Rattle.std.proofs.Common.{refl}
use Rattle.state_sets.specs.SixStates.{six_states}
use Rattle.state_sets.specs.SixLaws.{six_laws}
use Rattle.state_sets.proofs.OpTables.{inversions_within, are_inversions}
use Rattle.state_sets.proofs.SixTables.{six_tables, six_tables_are}
use Rattle.state_sets.proofs.six_states.SixStatesAlgebra.invert_set.Goals as goal

pub returns-clause-within : goal.returns-clause-within
returns-clause-within c = inversions_within six_states six_laws six_tables six_tables_are c.args.set c.requires _ refl

pub returns-clause-inverts : goal.returns-clause-inverts
returns-clause-inverts c = are_inversions six_states six_laws six_tables six_tables_are c.args.set c.requires _ refl
