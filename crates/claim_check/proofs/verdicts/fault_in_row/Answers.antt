-- The listed path of the row, and what stands in both lists there.
use Rattle.std.proofs.Common.{◌≡◌, ◌∙◌, ◌<◌, ℕ, List, Option, length, get_or, ap, refl, sym, subst, arith}
use Rattle.std.specs.Prelude.{slice_get, None, Some, option_map}
use Rattle.std.proofs.lemmas.List.{get_or_default, length-map}
use Rattle.std.proofs.lemmas.Option.{same_Some, slice_get-map, slice_get_read, slice_get_within}
use Rattle.pd_base.specs.Target.{target_of}
use Rattle.pd_base.specs.declared.fault.Kind.{Kind}
use Rattle.pd_base.specs.declared.fault.Kind.TheVariants as kinds
use Rattle.runs.specs.declared.run.ListedPath.{ListedPath}
use Rattle.good_runs.specs.Faults.{routes_of}
use Rattle.claim_check.specs.Prefixes.{IsLeastRefutation}
use Rattle.claim_check.proofs.verdicts.fault_in_row.Goals as goal

pub returns-clause-fault : goal.returns-clause-fault
returns-clause-fault c =
    let run = c.args.run.now in
    let row = c.args.row in
    let path = c.args.path.now in
    let least = c.args.least.now in
    let listed = c.index-as_slice-row.result in
    let inside = slice_get_within (routes_of run) row path c.requires.path in
    let many = length-map run.paths (λ (l : ListedPath). l.path) in
    let at : listed ≡ get_or run.paths row listed =
    subst (λ (list : List ListedPath). listed ≡ get_or list row listed) c.as_slice.ensures c.index-as_slice-row.is in
    let is_listed : slice_get run.paths row ≡ Some listed = slice_get_read run.paths (length run.paths) row listed refl (omega arith) at in
    let Refutes : Kind → Option ℕ → Type 0 =
    λ kind number. IsLeastRefutation (routes_of run) run.proofs (target_of path c.args.direction kind) number in
    let in_robust : row < length least.robust.items = let each = c.requires.least.robust_each in omega arith in
    let in_nonrobust : row < length least.nonrobust.items = let each = c.requires.least.nonrobust_each in omega arith in
    let robust : get_or least.robust.items row None ≡ c.index.result.now =
    get_or_default least.robust.items row None c.index.result.now in_robust ∙ sym c.index.ensures in
    let nonrobust : get_or least.nonrobust.items row None ≡ c.index-2.result.now =
    get_or_default least.nonrobust.items row None c.index-2.result.now in_nonrobust ∙ sym c.index-2.ensures in
    record {
      listed = listed;
      is_listed = is_listed;
      is_number = refl;
      is_path = same_Some path listed.path
          (sym c.requires.path ∙ slice_get-map (λ (l : ListedPath). l.path) run.paths row ∙ ap (option_map (λ (l : ListedPath). l.path)) is_listed);
      is_direction = refl;
      is_verdict = c.verdict_for.ensures;
      least_robust = subst (Refutes kinds.Robust) robust (c.requires.least.robust row path c.requires.path);
      least_nonrobust = subst (Refutes kinds.Nonrobust) nonrobust (c.requires.least.nonrobust row path c.requires.path);
    }
