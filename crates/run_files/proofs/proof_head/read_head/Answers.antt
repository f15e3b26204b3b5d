-- A line is a head where it is a claim and a prefix behind it.
use Rattle.text_pieces.specs.Cuts.{words_left, words_of}
use Rattle.run_files.proofs.ProofHeads.{no_claim, no_prefix, one_head}
use Rattle.run_files.proofs.proof_head.read_head.Goals as goal

pub returns-in_err-claim : goal.returns-in_err-claim
returns-in_err-claim c = rw c.from_residual.ensures (no_claim c.args.number (words_of c.args.line.now) c.in_err-claim.ensures)

pub returns-in_err-prefix : goal.returns-in_err-prefix
returns-in_err-prefix c =
    rw c.from_residual-in_err-prefix.ensures
    (no_prefix c.args.number (words_of c.args.line.now) c.in_ok-claim.claim (words_left c.in_ok-claim.left) c.in_ok-claim.ensures
    c.in_err-prefix.ensures)

pub returns : goal.returns
returns c =
    one_head c.args.number (words_of c.args.line.now) c.in_ok-claim.claim (words_left c.in_ok-claim.left) c.in_ok-claim.ensures
    c.in_ok-prefix.prefix (words_left c.in_ok-prefix.left) c.in_ok-prefix.ensures
