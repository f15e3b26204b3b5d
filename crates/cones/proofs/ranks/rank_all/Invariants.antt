use Rattle.std.proofs.Common.{◌≡◌, ℕ, ◌<◌, get_or, length}
use Rattle.cones.specs.Ranks.{ranked_gate}
use Rattle.cones.proofs.ranks.rank_all.Given as goal

-- the gates before this place have theirs
abbrev pub invariant-loop-place : goal.invariant-loop-place
invariant-loop-place l = record {
  one_each : length l.ranks ≡ length l.initial.ranks;
  ranked : (k : ℕ) → k < l.place → get_or l.ranks (ranked_gate l.order k).0 0 ≡ k;
}
