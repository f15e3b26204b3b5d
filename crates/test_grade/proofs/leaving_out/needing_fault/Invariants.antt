use Rattle.std.proofs.Common.{ℕ, ◌<◌, ◌≤◌, IsTrue, length}
use Rattle.test_grade.specs.Compact.{count_of, serves_in}
use Rattle.test_grade.proofs.leaving_out.needing_fault.Given as goal

-- none of the faults before this one needs the test
abbrev pub invariant-loop-fault : goal.invariant-loop-fault
invariant-loop-fault l = (k : ℕ) → k < l.fault → IsTrue (serves_in l.words (length l.counts) l.test k) → 2 ≤ count_of l.counts k
