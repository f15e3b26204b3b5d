-- The four states keep the laws of a kind of states: each law is computed at all of them (this project's own).
use Rattle.std.proofs.Common.{refl, lit<, lit≤}
use Rattle.state_sets.specs.StateAlgebra.{HasLaws}
use Rattle.state_sets.specs.ComputedLaws.{computed_laws}
use Rattle.state_sets.specs.FourStates.{four_states}

-- the four states keep the laws
pub four_laws : HasLaws four_states
four_laws = computed_laws four_states (record {
  few = lit≤ tt;
  join_within = refl;
  unit_within = refl;
  invert_within = refl;
  sources_within = lit< tt;
  associative = refl;
  commutative = refl;
  unit_first = refl;
  invert_twice = refl;
  last_joins = refl;
  last_of_unit = refl;
  last_inverts = refl;
  of_within = refl;
  of_last = refl;
  of_steady = refl;
  of_unit = refl;
  of_joins = refl;
  of_inverts = refl;
  of_links = refl;
  some_linked = refl;
  of_source = refl;
  source_of = refl;
})
