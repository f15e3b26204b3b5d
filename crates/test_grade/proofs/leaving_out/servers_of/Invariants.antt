use Rattle.std.proofs.Common.{◌≡◌, ◌≤◌}
use Rattle.test_grade.specs.Compact.{count_below, serves_in}
use Rattle.test_grade.proofs.leaving_out.servers_of.Given as goal

-- those among the tests before this one are counted
abbrev pub invariant-loop-test : goal.invariant-loop-test
invariant-loop-test l = record {
  counted : l.count ≡ count_below (λ test. serves_in l.words l.faults test l.fn.fault) l.test;
  fits : l.count ≤ l.test;
}
