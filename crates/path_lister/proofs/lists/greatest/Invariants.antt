use Rattle.std.proofs.Common.{◌<◌, ◌≢◌, ℕ, slice_index}
use Rattle.path_lister.proofs.lists.greatest.Given as goal

-- no key before this one is the greatest
abbrev pub invariant-loop-place : goal.invariant-loop-place
invariant-loop-place l = (k : ℕ) → k < l.place → slice_index l.keys k ≢ l.key
