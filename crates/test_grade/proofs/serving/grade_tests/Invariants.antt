use Rattle.std.proofs.Common.{◌≡◌, ◌*◌, length}
use Rattle.test_grade.specs.Lines.{HasLineWords}
use Rattle.test_grade.specs.Serving.{IsMatrix}
use Rattle.test_grade.proofs.serving.grade_tests.Given as goal

-- the blocks so far are graded
abbrev pub invariant-loop-block : goal.invariant-loop-block
invariant-loop-block l = record {
  graded : IsMatrix l.asked l.net l.paths l.tests (l.block * 64) l.words;
  base : l.base ≡ l.block * (2 * length l.paths);
  lanes : HasLineWords l.net l.lanes;
  places : length l.words ≡ length l.initial.words;
}
