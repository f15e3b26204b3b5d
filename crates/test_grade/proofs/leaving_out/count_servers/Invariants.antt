use Rattle.std.proofs.Common.{◌≡◌, ℕ, ◌<◌, length}
use Rattle.test_grade.specs.Compact.{count_below, count_of, serves_in}
use Rattle.test_grade.proofs.leaving_out.count_servers.Given as goal

-- the faults before this one have their counts
abbrev pub invariant-loop-fault : goal.invariant-loop-fault
invariant-loop-fault l = (k : ℕ) → k < l.fault
    → count_of l.counts k ≡ count_below (λ test. serves_in l.words (length l.initial.counts) test k) l.tests
