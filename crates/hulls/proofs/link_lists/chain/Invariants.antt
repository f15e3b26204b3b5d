use Rattle.std.proofs.Common.{◌≡◌, length}
use Rattle.hulls.specs.Links.{IsChained}
use Rattle.hulls.proofs.link_lists.chain.Given as goal

abbrev pub invariant-loop-link : goal.invariant-loop-link
invariant-loop-link l = record {
  lines : length l.heads.items ≡ l.fn.lines;
  chained : IsChained l.fn.second l.links l.link l.heads.items l.nexts.items;
}
