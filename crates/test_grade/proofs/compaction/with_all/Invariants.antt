use Rattle.std.proofs.Common.{ℕ, ◌<◌, All, Contains}
use Rattle.test_grade.proofs.compaction.with_all.Given as goal

-- the places so far are there
abbrev pub invariant-loop-place : goal.invariant-loop-place
invariant-loop-place l = record {
  within : All (λ place. place < l.count) l.order.items;
  there : (place : ℕ) → place < l.place → Contains l.order.items place;
}
