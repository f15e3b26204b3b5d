use Rattle.std.proofs.Common.{◌<◌, All, length}
use Rattle.test_grade.proofs.covering.ordered.Given as goal

-- all so far are tests
abbrev pub invariant-loop-test : goal.invariant-loop-test
invariant-loop-test l = All (λ test. test < length l.taken) l.order.items

abbrev pub invariant-loop-place : goal.invariant-loop-place
invariant-loop-place l = All (λ test. test < length l.fn.taken) l.order.items
