-- Proof by proof.
use Rattle.std.proofs.Common.{◌≡◌, List, length, refl, sym, ap, ◌∙◌, subst, subst₂, All, arith}
use Rattle.std.specs.Prelude.{slice_get, None, Some}
use Rattle.std.proofs.lemmas.Option.{MatchOption-at_none, MatchOption-at_some, slice_get_read}
use Rattle.pd_base.specs.Links.{links_of}
use Rattle.pd_base.specs.Route.{Route}
use Rattle.pd_base.specs.declared.rules.Rules.{Rules}
use Rattle.runs.specs.declared.run.Proof.{Proof}
use Rattle.refutation_check.specs.Judges.{MadeFor}
use Rattle.claim_check.specs.JudgedPaths.{IsPathTold}
use Rattle.good_runs.proofs.Numbers.{number_within}
use Rattle.claim_check.specs.declared.claim.Reason.{Reason}
use Rattle.claim_check.specs.Flaws.{IsFirstReason}
use Rattle.claim_check.specs.Right.{IsRightProof, IsRightProofAt}
use Rattle.claim_check.proofs.ProofFlaws.{no_proofs_yet, proof_told}
use Rattle.claim_check.proofs.Telling.{first_at, proofs_only, right_more}
use Rattle.claim_check.proofs.proving.wrong_by.Goals as goal

pub loop-place-init : goal.loop-place-init
loop-place-init g c = record { same = refl; right = no_proofs_yet c.args.judge.now.net c.args.budget c.args.run.now }

pub wrong_in-requires-clause-paths : goal.wrong_in-requires-clause-paths
wrong_in-requires-clause-paths g c =
    let P : MadeFor → Type 0 = λ made. All (IsPathTold made.net (links_of made.rules) made.ends) c.args.paths.now in
    subst P (sym c.loop-place.invariant.same) c.requires.paths

pub returns-in-Some : goal.returns-in-Some
returns-in-Some g c =
    let net = c.args.judge.now.net in
    let run = c.args.run.now in
    let list = c.as_slice-proofs.result.now in
    let proof = c.index-proofs-place.result in
    let read = slice_get_read list (length list) c.loop-place.place proof refl (omega arith) c.index-proofs-place.is in
    let there = subst (λ (proofs : List Proof). slice_get proofs c.loop-place.place ≡ Some proof) c.as_slice-proofs.ensures read in
    let M : MadeFor → Type 0 = λ made. IsFirstReason (IsRightProof made.net made.rules c.args.budget c.args.paths.now proof) c.in-Some.reason in
    let P : Rules → List Route → Type 0 = λ rules routes. IsFirstReason (IsRightProof net rules c.args.budget routes proof) c.in-Some.reason in
    let made = c.loop-place.judge in
    let wrong =
    MatchOption-at_some ((reason : Reason) → IsRightProof made.net made.rules c.args.budget c.args.paths.now proof reason)
    (IsFirstReason (IsRightProof made.net made.rules c.args.budget c.args.paths.now proof)) c.in-Some.reason c.in-Some.is c.in_ok-reason.ensures.tells in
    first_at (IsRightProofAt net c.args.budget run) 3 (proofs_only net c.args.budget run) c.loop-place.place c.in-Some.reason
    c.loop-place.invariant.right
    (proof_told net c.args.budget run c.loop-place.place proof there (Some c.in-Some.reason)
    (subst₂ P c.requires.rules c.requires.routes (subst M c.loop-place.invariant.same wrong)))

pub loop-place-preserved : goal.loop-place-preserved
loop-place-preserved g c =
    let net = c.args.judge.now.net in
    let run = c.args.run.now in
    let list = c.as_slice-proofs.result.now in
    let proof = c.index-proofs-place.result in
    let read = slice_get_read list (length list) c.loop-place.place proof refl (omega arith) c.index-proofs-place.is in
    let there = subst (λ (proofs : List Proof). slice_get proofs c.loop-place.place ≡ Some proof) c.as_slice-proofs.ensures read in
    let M : MadeFor → Type 0 = λ made. (reason : Reason) → IsRightProof made.net made.rules c.args.budget c.args.paths.now proof reason in
    let P : Rules → List Route → Type 0 = λ rules routes. (reason : Reason) → IsRightProof net rules c.args.budget routes proof reason in
    let made = c.loop-place.judge in
    let right =
    MatchOption-at_none ((reason : Reason) → IsRightProof made.net made.rules c.args.budget c.args.paths.now proof reason)
    (IsFirstReason (IsRightProof made.net made.rules c.args.budget c.args.paths.now proof)) c.in_default.is c.in_ok-reason.ensures.tells in
    record {
      same = c.in_ok-reason.ensures.same ∙ c.loop-place.invariant.same;
      right = right_more (IsRightProofAt net c.args.budget run) c.loop-place.place c.loop-place.invariant.right
          (proof_told net c.args.budget run c.loop-place.place proof there None
          (subst₂ P c.requires.rules c.requires.routes (subst M c.loop-place.invariant.same right)));
    }

pub returns : goal.returns
returns g c = λ item reason proof is.
    let few = number_within c.args.run.now.proofs item proof is in
    let long = ap length c.as_slice-proofs.ensures in
    c.loop-place.invariant.right item reason (omega arith) proof is
