-- There is a place for each test, and one for each fault.
use Rattle.std.proofs.Common.{◌≡◌, false, length, sym, ap, subst, ◌∙◌}
use Rattle.std.proofs.lemmas.List.{length-replicate}
use Rattle.test_grade.specs.Compact.{HasWords}
use Rattle.test_grade.proofs.covering.covering_order.Goals as goal

pub take_all-requires-clause-words : goal.take_all-requires-clause-words
take_all-requires-clause-words c =
    let tests : length c.as_mut_slice.result.now ≡ c.args.tests =
    ap length c.as_mut_slice.ensures.value ∙ ap length (c.in_ok-gains.ensures.items_if_clones_equal (λ y same. same)) ∙ length-replicate c.args.tests 0 in
    let faults : length c.as_mut_slice-2.result.now ≡ c.args.faults =
    ap length c.as_mut_slice-2.ensures.value ∙ ap length (c.in_ok-covered.ensures.items_if_clones_equal (λ y same. same)) ∙ length-replicate c.args.faults false in
    subst (λ t. HasWords c.args.words.now t (length c.as_mut_slice-2.result.now)) (sym tests)
    (subst (HasWords c.args.words.now c.args.tests) (sym faults) c.requires)
