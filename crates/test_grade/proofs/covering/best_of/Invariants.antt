use Rattle.std.proofs.Common.{◌<◌, length}
use Rattle.test_grade.proofs.covering.best_of.Given as goal

abbrev pub invariant-loop-test : goal.invariant-loop-test
invariant-loop-test l = l.best < length l.gains
