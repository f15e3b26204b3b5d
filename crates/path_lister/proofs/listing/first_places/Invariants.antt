use Rattle.std.proofs.Common.{◌≡◌, length}
use Rattle.path_laws.specs.Listed.{AreRootPlaces}
use Rattle.path_lister.proofs.listing.first_places.Given as goal

-- so many are listed, and the next one is known
abbrev pub invariant-loop-listed : goal.invariant-loop-listed
invariant-loop-listed l = record {
  listed : AreRootPlaces l.graph l.lists l.places.items l.next;
  so_many : length l.places.items ≡ l._listed;
}
