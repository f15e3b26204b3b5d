use Rattle.std.proofs.Common.{◌≡◌, take}
use Rattle.scan_order.specs.SkewedLinks.{links_of_chains}
use Rattle.scan_order.proofs.skewing.skewed_links.Given as goal

-- the links of the chains up to here
abbrev pub invariant-loop-chain : goal.invariant-loop-chain
invariant-loop-chain l = l.pairs.items ≡ links_of_chains (take l.chain-index l.chain-items)
