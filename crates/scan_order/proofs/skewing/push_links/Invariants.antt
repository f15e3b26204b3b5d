use Rattle.std.proofs.Common.{◌≡◌, ◌++◌, take}
use Rattle.scan_order.specs.SkewedLinks.{links_along}
use Rattle.scan_order.proofs.skewing.push_links.Given as goal

-- the links up to here
abbrev pub invariant-loop-at : goal.invariant-loop-at
invariant-loop-at l = l.pairs.items ≡ l.initial.pairs.items ++ links_along (take l.at l.chain)
