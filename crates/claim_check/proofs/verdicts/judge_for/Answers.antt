-- What is told of each test is what its flag is true for.
use Rattle.claim_check.proofs.verdicts.judge_for.Goals as goal

pub returns : goal.returns
returns c = record {
  pairs = c.in_ok-new.ensures;
  of_rules = c.in_ok-of_rules.ensures;
  expected = record { one_each = c.in_ok-expected.ensures.one_each; exactly = c.in_ok-expected.ensures.exactly };
}
