-- Where a refutation applies, the least one is the proof.
use Rattle.pd_base.specs.declared.fault.Kind.TheVariants as kinds
use Rattle.pd_base.specs.Target.{target_of}
use Rattle.good_runs.specs.Faults.{routes_of}
use Rattle.claim_check.proofs.Citings.{robust_by_least}
use Rattle.claim_check.proofs.citing.has_robust_proof.Goals as goal

pub returns-in-Some : goal.returns-in-Some
returns-in-Some c =
    let run = c.args.run.now in
    let fault = c.args.fault.now in
    robust_by_least (routes_of run) run.proofs (target_of fault.path.now fault.direction kinds.Robust) fault.number c.in-Some.least fault.robust
    c.in-Some.is c.requires c.args.proof
