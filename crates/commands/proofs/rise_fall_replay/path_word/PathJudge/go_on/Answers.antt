-- The first test of a block stands at a multiple of 64.
use Rattle.std.proofs.Common.{◌≡◌, ℕ, ◌*◌, ◌/◌, subst, arith}
use Rattle.test_grade.specs.Lines.{AreTestsUnder}
use Rattle.commands.proofs.rise_fall_replay.path_word.PathJudge.go_on.Goals as goal

pub returns-clause-tests : goal.returns-clause-tests
returns-clause-tests c =
    let place = c.args.place in
    let first : place ≡ place / 64 * 64 = omega arith in
    subst (λ (begin : ℕ). AreTestsUnder c.args.net.now begin c.args.tests.now c.look_at.new.self) first c.look_at.ensures.tests
