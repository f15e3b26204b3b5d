use Rattle.std.proofs.Common.{take}
use Rattle.std.specs.List.{All}
use Rattle.path_model.proofs.LinkedPairs.{HasLinkBit}
use Rattle.path_model.proofs.linked_pairs.has_link_bits.Given as goal

-- the links before this one have their bits
abbrev pub invariant-loop-link : goal.invariant-loop-link
invariant-loop-link l = All (HasLinkBit l.vector l.values) (take l.link-index l.links)
