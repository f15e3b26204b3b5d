use Rattle.std.proofs.Common.{◌<◌, All, length}
use Rattle.test_grade.proofs.covering.take_all.Given as goal

-- the cover has tests
abbrev pub invariant-loop : goal.invariant-loop
invariant-loop l = All (λ test. test < length l.initial.gains) l.cover.items
