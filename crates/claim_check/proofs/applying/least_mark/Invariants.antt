use Rattle.std.proofs.Common.{take}
use Rattle.claim_check.specs.Prefixes.{IsLeastMark}
use Rattle.claim_check.proofs.applying.least_mark.Given as goal

-- the least number at the nodes before this one
abbrev pub invariant-loop-node : goal.invariant-loop-node
invariant-loop-node l = IsLeastMark l.marks (take l.node-index l.nodes) l.least
