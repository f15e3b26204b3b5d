-- A proof is judged by what it says it is.
use Rattle.std.proofs.Common.{sym, subst}
use Rattle.claim_check.specs.Flaws.{TellsOfItem}
use Rattle.claim_check.specs.Right.{IsRightProof}
use Rattle.claim_check.proofs.ProofFlaws.{judged_refutation, judged_spent}
use Rattle.claim_check.proofs.proving.wrong_in.Goals as goal

pub returns-then-proof-clause-tells : goal.returns-then-proof-clause-tells
returns-then-proof-clause-tells g c =
    let net = c.args.judge.now.net in
    let rules = c.args.judge.now.rules in
    let routes = c.args.paths.now in
    let proof = c.args.proof.now in
    subst (TellsOfItem (IsRightProof net rules c.args.budget routes proof)) (sym c.unless.ensures)
    (judged_spent net rules c.args.budget routes proof c.if-proof.true c.in_ok-good.good c.in_ok-good.ensures.good)

pub returns-clause-tells : goal.returns-clause-tells
returns-clause-tells g c =
    let net = c.args.judge.now.net in
    let rules = c.args.judge.now.rules in
    let routes = c.args.paths.now in
    let proof = c.args.proof.now in
    subst (TellsOfItem (IsRightProof net rules c.args.budget routes proof)) (sym c.unless-2.ensures)
    (judged_refutation net rules c.args.budget routes proof c.if-proof.false c.in_ok-good-2.good c.in_ok-good-2.ensures.good)
