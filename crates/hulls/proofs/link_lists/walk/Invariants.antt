use Rattle.std.proofs.Common.{ℕ, ◌≤◌, ◌+◌, ◌⊎◌, length, slice_index_or}
use Rattle.std.specs.List.{Contains}
use Rattle.hulls.specs.Awaiting.{IsMore}
use Rattle.hulls.specs.Links.{IsInChain}
use Rattle.hulls.proofs.link_lists.walk.Given as goal

abbrev pub invariant-loop-at : goal.invariant-loop-at
invariant-loop-at l = record {
  low : l.at ≤ length l.chains.nexts.items;
  more : IsMore l.initial.waiting l.waiting;
  waits : (link : ℕ) → IsInChain l.chains.nexts.items link (slice_index_or l.chains.heads.items l.fn.line.0 0)
      → Contains l.waiting.waiting (record { 0 = l.fn.gates + link }) ⊎ IsInChain l.chains.nexts.items link l.at;
}

abbrev pub decreases-loop-at : goal.decreases-loop-at
decreases-loop-at l = l.at
