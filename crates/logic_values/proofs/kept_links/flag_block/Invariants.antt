use Rattle.std.proofs.Common.{◌≡◌, length}
use Rattle.logic_values.specs.Blocks.{AreFlaggedIn}
use Rattle.logic_values.specs.KeptLinks.{HasLinkBits}
use Rattle.logic_values.proofs.kept_links.flag_block.Given as goal

-- the tests so far are flagged
abbrev pub invariant-loop-place : goal.invariant-loop-place
invariant-loop-place l = record {
  flagged : AreFlaggedIn (λ lane test. HasLinkBits l.links test.pair.second l.words lane) l.begin l.place l.tests l.initial.flags l.flags;
  places : length l.flags ≡ length l.tests;
}
