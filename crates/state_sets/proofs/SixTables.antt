-- The tables of six states have what the operations make of states and of sets: computed at all places.
use Rattle.std.proofs.Common.{◌≡◌, true, length, refl}
use Rattle.state_sets.specs.declared.six_tables.TheConstants.{AND_STATES, OR_STATES, XOR_STATES, AND_SETS, OR_SETS, XOR_SETS, AND_SUPPORTS, OR_SUPPORTS, XOR_SUPPORTS, INVERTED_SETS}
use Rattle.state_sets.specs.OpTables.{by_op}
use Rattle.state_sets.specs.SixStates.{six_states}
use Rattle.state_sets.proofs.UnitedSets.{set_joins, set_supports, join_number}
use Rattle.state_sets.proofs.NumberTables.{all_are, by_rows}
use Rattle.state_sets.proofs.OpTables.{Tables, AreTables, of_each}

abbrev pub six_tables : Tables
six_tables = record {
  sets = 64;
  states = by_op AND_STATES OR_STATES XOR_STATES;
  joins = by_op AND_SETS OR_SETS XOR_SETS;
  supports = by_op AND_SUPPORTS OR_SUPPORTS XOR_SUPPORTS;
  inversions = INVERTED_SETS;
}

pub six_tables_are : AreTables six_states six_tables
six_tables_are = record {
  all_sets = refl;
  states_long = of_each (λ op. length (six_tables.states op) ≡ 36) refl refl refl;
  joins_long = of_each (λ op. length (six_tables.joins op) ≡ 4096) refl refl refl;
  supports_long = of_each (λ op. length (six_tables.supports op) ≡ 4096) refl refl refl;
  inversions_long = refl;
  states = of_each (λ op. all_are (by_rows 6 (join_number six_states op)) 0 (six_tables.states op) ≡ true) refl refl refl;
  joins = of_each (λ op. all_are (by_rows 64 (set_joins six_states op)) 0 (six_tables.joins op) ≡ true) refl refl refl;
  supports = of_each (λ op. all_are (by_rows 64 (set_supports six_states op)) 0 (six_tables.supports op) ≡ true) refl refl refl;
  inversions = refl;
}
