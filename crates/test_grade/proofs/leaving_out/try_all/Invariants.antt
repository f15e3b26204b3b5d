use Rattle.std.proofs.Common.{◌≡◌, ℕ, ◌<◌, ◌≤◌, IsTrue, length, get_or}
use Rattle.test_grade.specs.Compact.{AreCounted, IsAlone, count_of, is_kept, serves_in}
use Rattle.test_grade.proofs.leaving_out.try_all.Given as goal

-- the counts are right, what was served is, and the tests that were tried and kept are needed
abbrev pub invariant-loop-test : goal.invariant-loop-test
invariant-loop-test l = record {
  tests : length l.kept ≡ length l.initial.kept;
  faults : length l.counts ≡ length l.initial.counts;
  counted : AreCounted (length l.initial.kept) (serves_in l.words (length l.initial.counts)) l.kept l.counts;
  served : (fault : ℕ) → fault < length l.initial.counts → 1 ≤ count_of l.initial.counts fault → 1 ≤ count_of l.counts fault;
  needed : (k : ℕ) → k < l.test-index → IsTrue (is_kept l.kept (get_or l.order k 0))
      → (fault : ℕ) × IsAlone (serves_in l.words (length l.initial.counts)) l.counts (get_or l.order k 0) fault;
}
