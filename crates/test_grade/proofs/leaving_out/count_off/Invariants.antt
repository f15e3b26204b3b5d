use Rattle.std.proofs.Common.{◌≡◌, ℕ, ◌<◌, ◌≤◌, ◌-◌, if◌then◌else◌, length}
use Rattle.test_grade.specs.Compact.{count_of, serves_in}
use Rattle.test_grade.proofs.leaving_out.count_off.Given as goal

-- the test is counted off at the faults before this one
abbrev pub invariant-loop-fault : goal.invariant-loop-fault
invariant-loop-fault l = record {
  off : (k : ℕ) → k < l.fault → count_of l.counts k
      ≡ count_of l.initial.counts k - (if serves_in l.words (length l.initial.counts) l.test k then 1 else 0);
  others : (k : ℕ) → l.fault ≤ k → count_of l.counts k ≡ count_of l.initial.counts k;
}
