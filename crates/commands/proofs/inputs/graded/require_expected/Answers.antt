-- The first test that expects other values is told.
use Rattle.std.proofs.Common.{ℕ, All, Option, refl, subst}
use Rattle.std.specs.Prelude.{MatchOption}
use Rattle.commands.specs.Grading.{ExpectsValues, IsFirstWithout}
use Rattle.commands.specs.Inside.InputJudging as judging
use Rattle.commands.proofs.inputs.graded.require_expected.Goals as goal

pub returns-in-Some-clause-fails : goal.returns-in-Some-clause-fails
returns-in-Some-clause-fails c =
    let Right = ExpectsValues c.args.net.now in
    let tests = c.args.tests.now in
    judging.refused _ refl (record {
      number = c.in-Some.number;
      first = subst (λ (first : Option ℕ). MatchOption first (All Right tests) (IsFirstWithout Right tests)) c.in-Some.is
          c.in_ok-first_wrong_expected.ensures;
      is = c.wrong_item.ensures;
    })
