-- The links of a circuit's chains are of the circuit.
use Rattle.std.proofs.Common.{◌≡◌, ◌∙◌, sym, ap, subst, arith}
use Rattle.std.proofs.lemmas.List.{take_all}
use Rattle.std.proofs.lemmas.Result.{IfOk-weaker}
use Rattle.netlist.specs.LinkedPairs.{AreLinksOf}
use Rattle.scan_order.specs.SkewedLinks.{links_of_chains}
use Rattle.scan_order.proofs.Linked.{links_of_circuit}
use Rattle.scan_order.proofs.skewing.skewed_links.Goals as goal

pub returns-clause-of_circuit : goal.returns-clause-of_circuit
returns-clause-of_circuit c =
    let all : c.loop-chain.pairs.items ≡ links_of_chains c.args.chains.now =
    c.loop-chain.invariant
    ∙ ap links_of_chains (take_all c.loop-chain.chain-index c.chains-chain-items.result.now (omega arith) ∙ c.chains-chain-items.ensures.chains) in
    IfOk-weaker c.new.result _ _ (λ links same circuit is are.
    subst (AreLinksOf circuit) (sym (same ∙ c.deref.ensures.value ∙ all)) (links_of_circuit circuit is c.args.chains.now are)) c.new.ensures
