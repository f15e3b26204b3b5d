-- What is told of a verdict: the first that it lacks, of its proofs, its test, and the bits that this expects.
use Rattle.std.proofs.Common.{ℕ, ◌<◌, arith}
use Rattle.pd_base.specs.Route.{Route}
use Rattle.pd_base.specs.declared.fault.Direction.{Direction}
use Rattle.netlist.specs.Circuit.{Circuit}
use Rattle.runs.specs.declared.run.Run.{Run}
use Rattle.runs.specs.declared.run.Verdict.{Verdict}
use Rattle.claim_check.specs.declared.claim.Reason.{Reason}
use Rattle.claim_check.specs.declared.claim.Reason.TheVariants.{NotShared, BadTest, WrongExpected}
use Rattle.claim_check.specs.Flaws.{IsFirstReason, turn_of}
use Rattle.claim_check.specs.Right.{CitesItsProofs, ExpectsRight, HasItsTest, HasPairOf, IsRightVerdict, IsSoOfItsTest}

module _ (c : Circuit) (run : Run) (number : ℕ) (direction : Direction) (path : Route) (verdict : Verdict) where
  abbrev Is : Reason → Type 0
  Is = IsRightVerdict c run number direction path verdict

  pub shares_not : ¬ CitesItsProofs run number direction path verdict → IsFirstReason Is NotShared
  shares_not wrong = record { flawed = wrong; before = before }
    where
      before : (other : Reason) → turn_of other < 6 → Is other
      before NotShared less = absurd (omega arith)
      before BadTest less = absurd (omega arith)
      before WrongExpected less = absurd (omega arith)
      before other less = tt

  module _ (shares : CitesItsProofs run number direction path verdict) where
    pub tests_not : ¬ Is BadTest → IsFirstReason Is BadTest
    tests_not wrong = record { flawed = wrong; before = before }
      where
        before : (other : Reason) → turn_of other < 7 → Is other
        before NotShared less = shares
        before BadTest less = absurd (omega arith)
        before WrongExpected less = absurd (omega arith)
        before other less = tt

    module _ (tests : HasItsTest c run number direction path verdict) (of_rules : IsSoOfItsTest (HasPairOf c run.rules) run.tests verdict) where
      pub expects_not : ¬ IsSoOfItsTest (ExpectsRight c) run.tests verdict → IsFirstReason Is WrongExpected
      expects_not wrong = record { flawed = wrong; before = before }
        where
          before : (other : Reason) → turn_of other < 8 → Is other
          before NotShared less = shares
          before BadTest less = (tests, of_rules)
          before WrongExpected less = absurd (omega arith)
          before other less = tt

      pub verdict_right : IsSoOfItsTest (ExpectsRight c) run.tests verdict → (reason : Reason) → Is reason
      verdict_right expects NotShared = shares
      verdict_right expects BadTest = (tests, of_rules)
      verdict_right expects WrongExpected = expects
      verdict_right expects reason = tt
