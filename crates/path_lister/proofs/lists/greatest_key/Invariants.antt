use Rattle.std.proofs.Common.{◌≡◌, ◌⊎◌, ◌<◌, ◌≤◌, ℕ, slice_index, Contains}
use Rattle.path_lister.proofs.lists.greatest_key.Given as goal

-- the greatest of the keys before this one, and of the floor
abbrev pub invariant-loop-other : goal.invariant-loop-other
invariant-loop-other l = record {
  least : l.floor ≤ l.key;
  most : (k : ℕ) → k < l.other-index → slice_index l.keys k ≤ l.key;
  among : (l.key ≡ l.floor) ⊎ Contains l.keys l.key;
}
