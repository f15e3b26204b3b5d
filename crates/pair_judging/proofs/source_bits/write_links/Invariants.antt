use Rattle.std.proofs.Common.{◌≡◌, take, length, false, get_or}
use Rattle.cones.specs.FoundLines.{HasMark}
use Rattle.pair_judging.specs.SourceBits.{AreLinkBits}
use Rattle.pair_judging.proofs.source_bits.write_links.Given as goal

-- the bits of the links before this one are written
abbrev pub invariant-loop-link : goal.invariant-loop-link
invariant-loop-link l = record {
  places : length l.second ≡ length l.initial.second;
  linked : AreLinkBits (λ line. get_or l.values line false) (take l.link-index l.links) (HasMark l.marks) l.initial.second l.second;
}
