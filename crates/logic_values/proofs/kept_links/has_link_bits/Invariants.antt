use Rattle.std.proofs.Common.{take}
use Rattle.std.specs.List.{All}
use Rattle.logic_values.specs.KeptLinks.{HasLinkBit}
use Rattle.logic_values.proofs.kept_links.has_link_bits.Given as goal

-- the links before this one have their bits
abbrev pub invariant-loop-link : goal.invariant-loop-link
invariant-loop-link l = All (HasLinkBit l.vector l.words l.lane) (take l.link-index l.links)
