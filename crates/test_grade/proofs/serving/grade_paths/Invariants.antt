use Rattle.std.proofs.Common.{◌≡◌, ℕ, ◌<◌, length, get_or}
use Rattle.test_grade.specs.Serving.{AreGraded}
use Rattle.test_grade.proofs.serving.grade_paths.Given as goal

-- the paths so far are graded
abbrev pub invariant-loop-place : goal.invariant-loop-place
invariant-loop-place l = record {
  graded : AreGraded l.asked l.net l.paths l.finals l.steadies l.base l.place l.words;
  before : (k : ℕ) → k < l.base → get_or l.words k 0 ≡ get_or l.initial.words k 0;
  places : length l.words ≡ length l.initial.words;
}
