-- There is a word for each line, and a flag for each test.
use Rattle.std.proofs.Common.{Bool, false, List, length, sym, ap, subst, ◌∙◌}
use Rattle.std.proofs.lemmas.List.{length-replicate, with_items_is}
use Rattle.pd_base.specs.Links.{LinkList}
use Rattle.netlist.specs.LinkedPairs.{AreLinksOf, KeepsLinks}
use Rattle.logic_values.specs.Blocks.{AreFlags}
use Rattle.logic_values.proofs.kept_links.keep_links.Goals as goal

pub flag_blocks-requires-clause-links : goal.flag_blocks-requires-clause-links
flag_blocks-requires-clause-links c = subst (AreLinksOf c.args.net.now) (sym c.pairs.ensures) c.requires.links

pub flag_blocks-requires-clause-words : goal.flag_blocks-requires-clause-words
flag_blocks-requires-clause-words c =
    ap length c.as_mut_slice.ensures.value ∙ ap length (c.in_ok-words.ensures.items_if_clones_equal (λ y same. same))
    ∙ length-replicate c.lines.result 0 ∙ c.lines.ensures.count

pub flag_blocks-requires-clause-flags : goal.flag_blocks-requires-clause-flags
flag_blocks-requires-clause-flags c =
    ap length c.as_mut_slice-2.ensures.value ∙ ap length (c.in_ok-flags.ensures.items_if_clones_equal (λ y same. same))
    ∙ length-replicate (length c.args.tests.now) false

pub returns : goal.returns
returns c =
    let flags = c.in_ok-flags.flags in
    let net = c.args.net.now in
    let tests = c.args.tests.now in
    subst (λ (list : List Bool). AreFlags (λ test. KeepsLinks net c.args.links.now.pairs test.pair) tests list)
    (sym (with_items_is flags c.flag_blocks.new.flags (c.flag_blocks.auto.flags ∙ ap length c.as_mut_slice-2.ensures.value ∙ sym flags.ok.0)))
    (subst (λ (links : LinkList). AreFlags (λ test. KeepsLinks net links test.pair) tests c.flag_blocks.new.flags) c.pairs.ensures
    c.flag_blocks.ensures)
