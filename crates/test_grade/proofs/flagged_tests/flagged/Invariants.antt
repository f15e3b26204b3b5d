use Rattle.std.proofs.Common.{◌≡◌, take, length}
use Rattle.std.specs.List.{items_where_true}
use Rattle.test_grade.proofs.flagged_tests.flagged.Given as goal

-- those picked so far
abbrev pub invariant-loop-test : goal.invariant-loop-test
invariant-loop-test l = record {
  picked : l.kept.items ≡ items_where_true (take l.place l.flags) l.yielded;
  place : l.place ≡ length l.yielded;
}
