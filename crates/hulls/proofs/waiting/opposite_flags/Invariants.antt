-- The flags before a place are opposite, and the others stand as they were.
use Rattle.std.proofs.Common.{◌≡◌, ℕ, ◌<◌, ◌≤◌, false, not, length, get_or}
use Rattle.hulls.proofs.waiting.opposite_flags.Given as goal

abbrev pub invariant-loop-at : goal.invariant-loop-at
invariant-loop-at l = record {
  one_each : length l.flags.items ≡ length l.inside;
  opposite : (k : ℕ) → k < l.at → get_or l.flags.items k false ≡ not (get_or l.inside k false);
  left : (k : ℕ) → l.at ≤ k → get_or l.flags.items k false ≡ get_or l.inside k false;
}
