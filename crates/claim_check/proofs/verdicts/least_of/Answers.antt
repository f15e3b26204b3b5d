-- The paths are those that the run lists, and the proofs are its own.
use Rattle.std.proofs.Common.{◌≡◌, ◌∙◌, List, Option, ℕ, length, ap, subst}
use Rattle.std.proofs.lemmas.List.{length-map}
use Rattle.pd_base.specs.Route.{Route}
use Rattle.pd_base.specs.declared.fault.Kind.{Kind}
use Rattle.pd_base.specs.declared.fault.Kind.TheVariants as kinds
use Rattle.runs.specs.declared.run.ListedPath.{ListedPath}
use Rattle.runs.specs.declared.run.Proof.{Proof}
use Rattle.good_runs.specs.Faults.{routes_of}
use Rattle.claim_check.specs.Prefixes.{AreLeastRefutations}
use Rattle.claim_check.proofs.verdicts.least_of.Goals as goal

pub returns : goal.returns
returns c =
    let run = c.args.run.now in
    let each : length c.args.paths.now ≡ length run.paths =
    ap length c.requires.routes ∙ length-map run.paths (λ (listed : ListedPath). listed.path) in
    let Least : Kind → List (Option ℕ) → Type 0 = λ kind least. AreLeastRefutations (routes_of run) run.proofs c.args.direction kind least in
    let of_run : (kind : Kind) (least : List (Option ℕ))
    → AreLeastRefutations c.args.paths.now c.as_slice-proofs.result.now c.args.direction kind least → Least kind least =
    λ kind least are.
    subst (λ (routes : List Route). AreLeastRefutations routes run.proofs c.args.direction kind least) c.requires.routes
    (subst (λ (proofs : List Proof). AreLeastRefutations c.args.paths.now proofs c.args.direction kind least) c.as_slice-proofs.ensures are) in
    record {
      robust_each = c.in_ok-least_refutations.ensures.one_each ∙ each;
      nonrobust_each = c.in_ok-least_refutations-2.ensures.one_each ∙ each;
      robust = of_run kinds.Robust c.in_ok-least_refutations.field-0.items c.in_ok-least_refutations.ensures.least;
      nonrobust = of_run kinds.Nonrobust c.in_ok-least_refutations-2.field-0.items c.in_ok-least_refutations-2.ensures.least;
    }
