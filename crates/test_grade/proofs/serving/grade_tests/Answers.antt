-- One block more is graded; behind the last one all tests are.
use Rattle.std.proofs.Common.{◌*◌, ◌+◌, ℕ, List, length, subst, ◌∙◌, arith}
use Rattle.test_grade.specs.Serving.{AreGraded}
use Rattle.test_grade.proofs.Blocks.{matrix_more}
use Rattle.test_grade.proofs.serving.grade_tests.Goals as goal

pub loop-block-preserved : goal.loop-block-preserved
loop-block-preserved c =
    let block = c.loop-block.block in
    let turn = c.loop-block.invariant in
    let Graded : List ℕ → List ℕ → Type 0 =
    λ finals steadies. AreGraded c.args.asked c.args.net.now c.args.paths.now finals steadies c.loop-block.base (length c.args.paths.now) c.grade_paths.new.words in
    let graded : Graded c.look_at.new.self.finals c.look_at.new.self.steadies =
    subst (λ (finals : List ℕ). Graded finals c.look_at.new.self.steadies) c.finals.ensures
    (subst (λ (steadies : List ℕ). Graded c.finals.result.now steadies) c.steadies.ensures c.grade_paths.ensures.graded) in
    record {
      graded = matrix_more c.args.asked c.args.net.now c.args.paths.now c.args.tests.now block c.loop-block.base (block * 64 + 64)
          c.loop-block.words c.grade_paths.new.words c.look_at.new.self.finals c.look_at.new.self.steadies turn.base turn.graded
          c.grade_paths.ensures.before graded c.look_at.ensures.tests (λ place below inside. below);
      base = let was = turn.base in omega arith;
      lanes = c.look_at.ensures.words;
      places = c.grade_paths.auto.words ∙ turn.places;
    }

pub returns : goal.returns
returns c = record {
  each = λ place test path listed direction inside at stands.
      c.loop-block.invariant.graded.each place test path listed direction (omega arith) at stands;
}
