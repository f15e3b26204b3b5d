use Rattle.std.proofs.Common.{◌≡◌, ◌<◌, ◌++◌, length}
use Rattle.path_laws.specs.Entries.{entry_at, walk_at}
use Rattle.path_lister.proofs.listing.walk_from.Given as goal

-- the arcs so far, and what is left of the walk
abbrev pub invariant-loop-entry : goal.invariant-loop-entry
invariant-loop-entry l = record {
  within : l.at < length l.entries;
  here : l.entry ≡ entry_at l.entries l.at;
  walk : l.arcs.items ++ walk_at l.entries l.at ≡ walk_at l.entries l.place;
}

-- entries go on as earlier ones
abbrev pub decreases-loop-entry : goal.decreases-loop-entry
decreases-loop-entry l = l.at
