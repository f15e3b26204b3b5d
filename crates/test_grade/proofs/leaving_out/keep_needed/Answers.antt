-- There is a place for each test, which is kept at first, and one for each fault.
use Rattle.std.proofs.Common.{◌≡◌, ℕ, Bool, true, false, List, length, sym, ap, subst, ◌∙◌, arith}
use Rattle.std.proofs.lemmas.List.{length-replicate, with_items_is, get_or-replicate}
use Rattle.test_grade.specs.Compact.{HasWords, IsCompact, is_kept, serves_in}
use Rattle.test_grade.proofs.leaving_out.keep_needed.Goals as goal

pub decide-requires-clause-words : goal.decide-requires-clause-words
decide-requires-clause-words c =
    let tests : length c.as_mut_slice.result.now ≡ c.args.tests =
    ap length c.as_mut_slice.ensures.value ∙ ap length (c.in_ok-kept.ensures.items_if_clones_equal (λ y same. same)) ∙ length-replicate c.args.tests true in
    let faults : length c.as_mut_slice-2.result.now ≡ c.args.faults =
    ap length c.as_mut_slice-2.ensures.value ∙ ap length (c.in_ok-counts.ensures.items_if_clones_equal (λ y same. same)) ∙ length-replicate c.args.faults 0 in
    subst (λ t. HasWords c.args.words.now t (length c.as_mut_slice-2.result.now)) (sym tests)
    (subst (HasWords c.args.words.now c.args.tests) (sym faults) c.requires.words)

pub decide-requires-clause-order : goal.decide-requires-clause-order
decide-requires-clause-order c k d inside =
    let tests : length c.as_mut_slice.result.now ≡ c.args.tests =
    ap length c.as_mut_slice.ensures.value ∙ ap length (c.in_ok-kept.ensures.items_if_clones_equal (λ y same. same)) ∙ length-replicate c.args.tests true in
    let within = c.requires.order k d inside in
    omega arith

pub decide-requires-clause-whole : goal.decide-requires-clause-whole
decide-requires-clause-whole c test inside =
    let tests : length c.as_mut_slice.result.now ≡ c.args.tests =
    ap length c.as_mut_slice.ensures.value ∙ ap length (c.in_ok-kept.ensures.items_if_clones_equal (λ y same. same)) ∙ length-replicate c.args.tests true in
    c.requires.whole test (omega arith)

pub decide-requires-clause-all : goal.decide-requires-clause-all
decide-requires-clause-all c test inside =
    let tests : length c.as_mut_slice.result.now ≡ c.args.tests =
    ap length c.as_mut_slice.ensures.value ∙ ap length (c.in_ok-kept.ensures.items_if_clones_equal (λ y same. same)) ∙ length-replicate c.args.tests true in
    ap (λ kept. is_kept kept test) (c.as_mut_slice.ensures.value ∙ c.in_ok-kept.ensures.items_if_clones_equal (λ y same. same))
    ∙ get_or-replicate c.args.tests test true false (omega arith)

pub returns : goal.returns
returns c =
    let tests : length c.as_mut_slice.result.now ≡ c.args.tests =
    ap length c.as_mut_slice.ensures.value ∙ ap length (c.in_ok-kept.ensures.items_if_clones_equal (λ y same. same)) ∙ length-replicate c.args.tests true in
    let faults : length c.as_mut_slice-2.result.now ≡ c.args.faults =
    ap length c.as_mut_slice-2.ensures.value ∙ ap length (c.in_ok-counts.ensures.items_if_clones_equal (λ y same. same)) ∙ length-replicate c.args.faults 0 in
    let serves = λ (faults : ℕ). serves_in c.args.words.now faults in
    let kept = c.in_ok-kept.kept in
    subst (λ (list : List Bool). IsCompact c.args.tests c.args.faults (serves c.args.faults) list)
    (sym (with_items_is kept c.decide.new.kept (c.decide.auto.kept ∙ ap length c.as_mut_slice.ensures.value ∙ sym kept.ok.0)))
    (subst (λ t. IsCompact t c.args.faults (serves c.args.faults) c.decide.new.kept) tests
    (subst (λ f. IsCompact (length c.as_mut_slice.result.now) f (serves f) c.decide.new.kept) faults c.decide.ensures))
