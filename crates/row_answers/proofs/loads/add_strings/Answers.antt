-- Nothing stands twice in a chain.
use Rattle.std.proofs.Common.{◌≢◌, AllPairs, sym, subst, ◌∙◌}
use Rattle.pd_base.specs.declared.ids.LineId.{LineId}
use Rattle.scan_order.specs.Chains.{AreChains}
use Rattle.scan_order.proofs.CircuitChains.{once_in_each}
use Rattle.row_answers.proofs.loads.add_strings.Goals as goal

pub load_string-requires-clause-once : goal.load_string-requires-clause-once
load_string-requires-clause-once c =
    subst (AllPairs (λ (a b : LineId). a ≢ b)) (sym (c.as_slice.ensures ∙ c.chain-item.is))
    (once_in_each c.chains-chain-items.result.now
    (subst AreChains (sym c.chains-chain-items.ensures.chains) c.chains-chain-items.ensures.are) c.loop-chain.chain-index c.chain-item.result c.loop-chain-test.true)
