-- Of no proof none applies to a path.
use Rattle.std.proofs.Common.{◌≡◌, ◌∙◌, length, replicate, ap}
use Rattle.std.specs.Prelude.{None}
use Rattle.std.proofs.lemmas.List.{length-replicate}
use Rattle.pd_base.specs.declared.fault.Kind.TheVariants as kinds
use Rattle.claim_check.proofs.Unproved.{none_apply}
use Rattle.claim_check.proofs.verdicts.no_refutations.Goals as goal

pub returns : goal.returns
returns c = λ direction.
    let run = c.args.run.now in
    let count = length c.as_slice-count.result.now in
    let many : count ≡ length run.paths = ap length c.as_slice-count.ensures in
    let robust : c.in_ok-no_numbers.field-0.items ≡ replicate count None = c.in_ok-no_numbers.ensures in
    let nonrobust : c.in_ok-no_numbers-2.field-0.items ≡ replicate count None = c.in_ok-no_numbers-2.ensures in
    record {
      robust_each = ap length robust ∙ length-replicate count None ∙ many;
      nonrobust_each = ap length nonrobust ∙ length-replicate count None ∙ many;
      robust = none_apply run c.requires direction kinds.Robust count c.in_ok-no_numbers.field-0.items robust;
      nonrobust = none_apply run c.requires direction kinds.Nonrobust count c.in_ok-no_numbers-2.field-0.items nonrobust;
    }
