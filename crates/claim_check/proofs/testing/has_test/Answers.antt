-- The test of the number is one for the fault, or there is none of it.
use Rattle.std.proofs.Common.{subst}
use Rattle.std.proofs.lemmas.Bool.{false≢true}
use Rattle.pd_base.specs.Target.{target_of}
use Rattle.pd_base.specs.declared.fault.Kind.TheVariants.{Robust}
use Rattle.good_runs.specs.GoodRun.{IsTestOf}
use Rattle.good_runs.proofs.Numbers.{number_same}
use Rattle.claim_check.proofs.testing.has_test.Goals as goal

pub returns-in-None-clause-tests : goal.returns-in-None-clause-tests
returns-in-None-clause-tests c = ((λ is. absurd (false≢true is)), λ has. absurd (c.in-None.ensures has.test has.is_test))

pub returns-in-Some-clause-tests : goal.returns-in-Some-clause-tests
returns-in-Some-clause-tests c = (
  (λ is. record { test = c.in-Some.test.now; is_test = c.in-Some.ensures; of_fault = c.is_test_of.ensures.tests.0 is }),
  λ has.
      let fault = c.args.fault.now in
      c.is_test_of.ensures.tests.1
      (subst (IsTestOf c.args.net.now fault.number (target_of fault.path.now fault.direction Robust))
      (number_same c.args.tests.now c.args.number has.test c.in-Some.test.now has.is_test c.in-Some.ensures) has.of_fault),
)
