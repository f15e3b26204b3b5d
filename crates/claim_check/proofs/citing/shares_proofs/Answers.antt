-- An untestable fault cites the least refutation.
use Rattle.std.proofs.Common.{IsTrue, ◌↔◌, sym, subst}
use Rattle.pd_base.specs.declared.fault.Kind.TheVariants as kinds
use Rattle.pd_base.specs.Target.{target_of}
use Rattle.runs.specs.declared.run.Verdict.{Verdict}
use Rattle.good_runs.specs.Faults.{routes_of}
use Rattle.claim_check.specs.Right.{CitesItsProofs}
use Rattle.claim_check.proofs.Citings.{cited_by_least}
use Rattle.claim_check.proofs.citing.shares_proofs.Goals as goal

pub returns-in-Untestable : goal.returns-in-Untestable
returns-in-Untestable c =
    let run = c.args.run.now in
    let fault = c.args.fault.now in
    let exact =
    cited_by_least (routes_of run) run.proofs (target_of fault.path.now fault.direction kinds.Nonrobust) fault.nonrobust c.requires.nonrobust
    c.in-Untestable.proof in
    let P : Verdict → Type 0 = λ verdict. IsTrue c.is_number.result ↔ CitesItsProofs run fault.number fault.direction fault.path.now verdict in
    subst P (sym c.in-Untestable.is)
    (λ found. exact.0 (c.is_number.ensures.0 found), λ cites. c.is_number.ensures.1 (exact.1 cites))
