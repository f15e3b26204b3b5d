-- Of a run without proofs none is wrong.
use Rattle.std.proofs.Common.{◌≡◌, ℕ, ◌-◌, List, [], Option, length, get_or, replicate, ap, sym, subst, arith}
use Rattle.std.specs.Prelude.{None}
use Rattle.std.proofs.lemmas.Grind.{common_steps}
use Rattle.std.proofs.lemmas.Option.{slice_get_within}
use Rattle.pd_base.specs.Target.{target_of}
use Rattle.pd_base.specs.declared.fault.Direction.{Direction}
use Rattle.pd_base.specs.declared.fault.Kind.{Kind}
use Rattle.netlist.specs.Circuit.{Circuit}
use Rattle.runs.specs.declared.run.Run.{Run}
use Rattle.claim_check.specs.declared.claim.Reason.{Reason}
use Rattle.good_runs.specs.Faults.{routes_of}
use Rattle.claim_check.specs.Prefixes.{AreLeastRefutations, IsLeastRefutation}
use Rattle.claim_check.specs.Right.{IsRightProofAt}

pub proofs_right : (run : Run) → run.proofs ≡ [] → (c : Circuit) (budget item : ℕ) (reason : Reason) → IsRightProofAt c budget run item reason
proofs_right run none c budget item reason = λ proof is.
    let inside = slice_get_within run.proofs (item - 1) proof is.found in
    let empty = ap length none in
    absurd (omega arith)

-- nor does one apply to a path
pub none_apply : (run : Run) → run.proofs ≡ [] → (direction : Direction) (kind : Kind) (count : ℕ) (least : List (Option ℕ))
    → least ≡ replicate count None → AreLeastRefutations (routes_of run) run.proofs direction kind least
none_apply run none direction kind count least is = λ row path listed.
    let nothing : get_or least row None ≡ None = grind (arith, common_steps, is) in
    subst (IsLeastRefutation (routes_of run) run.proofs (target_of path direction kind)) (sym nothing)
    (λ number proof numbered.
    let inside = slice_get_within run.proofs (number - 1) proof numbered.found in
    let empty = ap length none in
    absurd (omega arith))
