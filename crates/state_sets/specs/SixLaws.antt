-- The six states keep the laws of a kind of states: each law is computed at all of them (this project's own).
use Rattle.std.proofs.Common.{refl, lit<, lit≤}
use Rattle.state_sets.specs.StateAlgebra.{HasLaws}
use Rattle.state_sets.specs.ComputedLaws.{computed_laws}
use Rattle.state_sets.specs.SixStates.{six_states}

-- the six states keep the laws
pub six_laws : HasLaws six_states
six_laws = computed_laws six_states (record {
  few = lit≤ tt;
  join_within = refl;
  unit_within = refl;
  invert_within = refl;
  sources_within = lit< tt;
  associative = refl;
  commutative = refl;
  unit_first = refl;
  invert_twice = refl;
  last_joins = refl;
  last_of_unit = refl;
  last_inverts = refl;
  of_within = refl;
  of_last = refl;
  of_steady = refl;
  of_unit = refl;
  of_joins = refl;
  of_inverts = refl;
  of_links = refl;
  some_linked = refl;
  of_source = refl;
  source_of = refl;
})
