-- There is a word for each line, and for each that is observed, and a flag for each test.
use Rattle.std.proofs.Common.{Bool, false, List, length, sym, ap, subst, ◌∙◌}
use Rattle.std.proofs.lemmas.List.{length-replicate, with_items_is}
use Rattle.logic_values.specs.Expected.{TellsExpected}
use Rattle.logic_values.proofs.expected.expect_observed.Goals as goal

pub tell_blocks-requires-clause-words : goal.tell_blocks-requires-clause-words
tell_blocks-requires-clause-words c =
    ap length c.as_mut_slice.ensures.value ∙ ap length (c.in_ok-words.ensures.items_if_clones_equal (λ y same. same))
    ∙ length-replicate c.lines.result 0 ∙ c.lines.ensures.count

pub tell_blocks-requires-clause-observed : goal.tell_blocks-requires-clause-observed
tell_blocks-requires-clause-observed c =
    ap length c.as_mut_slice-2.ensures.value ∙ ap length (c.in_ok-observed.ensures.items_if_clones_equal (λ y same. same))
    ∙ length-replicate (length c.observed.result.now) 0 ∙ ap length c.observed.ensures.observed

pub tell_blocks-requires-clause-flags : goal.tell_blocks-requires-clause-flags
tell_blocks-requires-clause-flags c =
    ap length c.as_mut_slice-3.ensures.value ∙ ap length (c.in_ok-flags.ensures.items_if_clones_equal (λ y same. same))
    ∙ length-replicate (length c.args.tests.now) false

pub tell_blocks-requires-clause-bits : goal.tell_blocks-requires-clause-bits
tell_blocks-requires-clause-bits c = c.requires

pub returns : goal.returns
returns c =
    let flags = c.in_ok-flags.flags in
    subst (λ (list : List Bool). TellsExpected c.args.net.now c.args.tests.now list)
    (sym (with_items_is flags c.tell_blocks.new.flags (c.tell_blocks.auto.flags ∙ ap length c.as_mut_slice-3.ensures.value ∙ sym flags.ok.0)))
    c.tell_blocks.ensures
