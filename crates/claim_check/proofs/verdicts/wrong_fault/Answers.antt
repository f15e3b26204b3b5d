-- What the verdict lacks first is told.
use Rattle.std.proofs.Common.{sym, subst, ◌∙◌}
use Rattle.std.proofs.lemmas.Bool.{false≢true}
use Rattle.logic_values.specs.Blocks.{AreFlags}
use Rattle.claim_check.specs.Right.{ExpectsRight, HasPairOf}
use Rattle.claim_check.proofs.TestFlags.{its_flag_tells}
use Rattle.claim_check.proofs.VerdictFlaws.{expects_not, shares_not, tests_not, verdict_right}
use Rattle.claim_check.proofs.verdicts.wrong_fault.Goals as goal

pub returns-then-not-shares_proofs-clause-wrong : goal.returns-then-not-shares_proofs-clause-wrong
returns-then-not-shares_proofs-clause-wrong c =
    let fault = c.args.fault.now in
    shares_not c.args.net.now c.args.run.now fault.number fault.direction fault.path.now fault.verdict
    (λ has. false≢true (sym c.if-not-shares_proofs.true ∙ c.shares_proofs.ensures.1 has))

pub returns-then-not-has_true_flag-clause-wrong : goal.returns-then-not-has_true_flag-clause-wrong
returns-then-not-has_true_flag-clause-wrong c =
    let fault = c.args.fault.now in
    let run = c.args.run.now in
    let OfRules = HasPairOf c.args.net.now run.rules in
    let flags = subst (AreFlags OfRules run.tests) (sym c.as_slice.ensures.value) c.requires.judge.of_rules in
    tests_not c.args.net.now run fault.number fault.direction fault.path.now fault.verdict (c.shares_proofs.ensures.0 c.if-not-shares_proofs.false)
    (λ right. false≢true (sym c.if-not-has_true_flag.true
    ∙ c.has_true_flag.ensures.1 ((its_flag_tells OfRules run.tests c.as_slice.result.now flags fault.verdict).1 right.1)))

pub returns-then-not-has_its_test-clause-wrong : goal.returns-then-not-has_its_test-clause-wrong
returns-then-not-has_its_test-clause-wrong c =
    let fault = c.args.fault.now in
    tests_not c.args.net.now c.args.run.now fault.number fault.direction fault.path.now fault.verdict
    (c.shares_proofs.ensures.0 c.if-not-shares_proofs.false)
    (λ right. false≢true (sym c.if-not-has_its_test.true ∙ c.has_its_test.ensures.tests.1 right.0))

pub returns-then-not-has_true_flag-2-clause-wrong : goal.returns-then-not-has_true_flag-2-clause-wrong
returns-then-not-has_true_flag-2-clause-wrong c =
    let fault = c.args.fault.now in
    let net = c.args.net.now in
    let run = c.args.run.now in
    let of_rules = subst (AreFlags (HasPairOf net run.rules) run.tests) (sym c.as_slice.ensures.value) c.requires.judge.of_rules in
    let expected = subst (AreFlags (ExpectsRight net) run.tests) (sym c.as_slice-2.ensures.value) c.requires.judge.expected in
    expects_not net run fault.number fault.direction fault.path.now fault.verdict (c.shares_proofs.ensures.0 c.if-not-shares_proofs.false)
    (c.has_its_test.ensures.tests.0 c.if-not-has_its_test.false)
    ((its_flag_tells (HasPairOf net run.rules) run.tests c.as_slice.result.now of_rules fault.verdict).0
    (c.has_true_flag.ensures.0 c.if-not-has_true_flag.false))
    (λ right. false≢true (sym c.if-not-has_true_flag-2.true
    ∙ c.has_true_flag-2.ensures.1 ((its_flag_tells (ExpectsRight net) run.tests c.as_slice-2.result.now expected fault.verdict).1 right)))

pub returns-clause-wrong : goal.returns-clause-wrong
returns-clause-wrong c =
    let fault = c.args.fault.now in
    let net = c.args.net.now in
    let run = c.args.run.now in
    let of_rules = subst (AreFlags (HasPairOf net run.rules) run.tests) (sym c.as_slice.ensures.value) c.requires.judge.of_rules in
    let expected = subst (AreFlags (ExpectsRight net) run.tests) (sym c.as_slice-2.ensures.value) c.requires.judge.expected in
    verdict_right net run fault.number fault.direction fault.path.now fault.verdict (c.shares_proofs.ensures.0 c.if-not-shares_proofs.false)
    (c.has_its_test.ensures.tests.0 c.if-not-has_its_test.false)
    ((its_flag_tells (HasPairOf net run.rules) run.tests c.as_slice.result.now of_rules fault.verdict).0
    (c.has_true_flag.ensures.0 c.if-not-has_true_flag.false))
    ((its_flag_tells (ExpectsRight net) run.tests c.as_slice-2.result.now expected fault.verdict).0
    (c.has_true_flag-2.ensures.0 c.if-not-has_true_flag-2.false))
