-- A pair is one of the rules where it keeps their links; each is, where there are none.
use Rattle.std.proofs.Common.{length, refl, sym, subst}
use Rattle.std.specs.Prelude.{IfOk}
use Rattle.std.proofs.lemmas.Result.{IfOk-weaker}
use Rattle.pd_base.specs.Links.{LinkList}
use Rattle.netlist.specs.LinkedPairs.{KeepsLinks}
use Rattle.trees.proofs.Unlinked.{every_pair_is_of_rules}
use Rattle.logic_values.specs.Blocks.{AreFlags}
use Rattle.claim_check.specs.Right.{HasPairOf}
use Rattle.claim_check.proofs.TestFlags.{true_flags}
use Rattle.claim_check.proofs.rule_pairs.have_pairs_of.Goals as goal

pub returns-in-Some : goal.returns-in-Some
returns-in-Some c =
    subst (λ (links : LinkList). IfOk c.keep_links.result (λ flags. AreFlags (λ test. KeepsLinks c.args.net.now links test.pair) c.args.tests.now flags.items))
    c.in-Some.ensures c.keep_links.ensures

pub returns-in-None : goal.returns-in-None
returns-in-None c =
    let net = c.args.net.now in
    let rules = c.args.rules.now in
    let tests = c.args.tests.now in
    IfOk-weaker c.all_true.result _ (λ flags. AreFlags (HasPairOf net rules) tests flags.items)
    (λ flags is. subst (AreFlags (HasPairOf net rules) tests) (sym is)
    (true_flags (HasPairOf net rules) tests (λ test. every_pair_is_of_rules net rules c.in-None.ensures test.pair) (length tests) refl))
    c.all_true.ensures
