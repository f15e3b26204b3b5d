use Rattle.std.proofs.Common.{◌≡◌, take, length}
use Rattle.cones.specs.SourceLinks.{AreHeads}
use Rattle.cones.proofs.source_links.set_heads.Given as goal

-- the lines of the links before this one are written
abbrev pub invariant-loop-link : goal.invariant-loop-link
invariant-loop-link l = record {
  places : length l.heads ≡ length l.initial.heads;
  heads : AreHeads (take l.link-index l.links) l.heads;
}
