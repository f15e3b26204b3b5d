-- The links of a launch by the last shift: a flip-flop has after the transition the bit that the one before it in its chain had before
-- (skewed-load tests: Savir 1992).
use Rattle.std.specs.Prelude.{List, drop, zip, flat_map}
use Rattle.pd_base.specs.declared.ids.LineId.{LineId}
use Rattle.pd_base.specs.Links.{LinkList}

-- each flip-flop of a chain but the first, with the one before it
abbrev pub links_along : List LineId → LinkList
links_along chain = zip (drop 1 chain) chain

-- those of all chains, in order
abbrev pub links_of_chains : List (List LineId) → LinkList
links_of_chains chains = flat_map links_along chains
