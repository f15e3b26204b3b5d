use Rattle.std.proofs.Common.{◌≡◌, ◌<◌, ◌≤◌, ℕ, [], length, get_or, vec_capacity}
use Rattle.std.specs.Prelude.{None}
use Rattle.claim_check.specs.Prefixes.{IsLeastMark}
use Rattle.claim_check.proofs.applying.least_by_rows.Given as goal

-- the rows before this one have theirs
abbrev pub invariant-loop-row : goal.invariant-loop-row
invariant-loop-row l = record {
  so_many : length l.least.items ≡ l.row;
  found : (row : ℕ) → row < l.row → IsLeastMark l.marks (get_or l.prefixes.rows row []) (get_or l.least.items row None);
  room : l.rows ≤ vec_capacity l.least;
}
