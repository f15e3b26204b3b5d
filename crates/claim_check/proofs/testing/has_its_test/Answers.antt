-- The verdict's test stands among the tests of the run.
use Rattle.std.proofs.Common.{◌↔◌, IsTrue, List, sym, subst}
use Rattle.pd_base.specs.Target.{target_of}
use Rattle.pd_base.specs.declared.test.Test.{Test}
use Rattle.pd_base.specs.declared.fault.Kind.TheVariants.{Robust}
use Rattle.runs.specs.declared.run.Verdict.{Verdict}
use Rattle.runs.specs.Lawful.{AreLawfulTests}
use Rattle.good_runs.specs.GoodRun.{HasNonrobustTest, HasTest}
use Rattle.claim_check.specs.Right.{HasItsTest}
use Rattle.claim_check.proofs.testing.has_its_test.Goals as goal

pub has_test-requires-clause-lawful : goal.has_test-requires-clause-lawful
has_test-requires-clause-lawful c = subst (AreLawfulTests c.args.net.now) (sym c.as_slice.ensures) c.requires.lawful

pub has_nonrobust_test-requires-clause-lawful : goal.has_nonrobust_test-requires-clause-lawful
has_nonrobust_test-requires-clause-lawful c =
    subst (AreLawfulTests c.args.net.now) (sym c.as_slice-in-Nonrobust.ensures) c.requires.lawful

pub returns-in-Robust-clause-tests : goal.returns-in-Robust-clause-tests
returns-in-Robust-clause-tests c =
    let fault = c.args.fault.now in
    subst (λ (verdict : Verdict). IsTrue c.has_test.result
    ↔ HasItsTest c.args.net.now c.args.run.now fault.number fault.direction fault.path.now verdict) (sym c.in-Robust.is)
    (subst (λ (tests : List Test). IsTrue c.has_test.result
    ↔ HasTest c.args.net.now tests fault.number (target_of fault.path.now fault.direction Robust) c.in-Robust.test)
    c.as_slice.ensures c.has_test.ensures.tests)

pub returns-in-Nonrobust-clause-tests : goal.returns-in-Nonrobust-clause-tests
returns-in-Nonrobust-clause-tests c =
    let fault = c.args.fault.now in
    subst (λ (verdict : Verdict). IsTrue c.has_nonrobust_test.result
    ↔ HasItsTest c.args.net.now c.args.run.now fault.number fault.direction fault.path.now verdict) (sym c.in-Nonrobust.is)
    (subst (λ (tests : List Test). IsTrue c.has_nonrobust_test.result
    ↔ HasNonrobustTest c.args.net.now tests fault.number fault.direction fault.path.now c.in-Nonrobust.test)
    c.as_slice-in-Nonrobust.ensures c.has_nonrobust_test.ensures.tests)
