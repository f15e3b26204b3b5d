use Rattle.std.proofs.Common.{◌≡◌, ◌+◌, ℕ, slice_index, sum, take}
use Rattle.net_builder.specs.Wiring.{times_read}
use Rattle.net_builder.proofs.fanouts.count_reads.Given as goal

-- the pins before this one are counted
abbrev pub invariant-loop-line : goal.invariant-loop-line
invariant-loop-line l = record {
  counts : (line : ℕ) → slice_index l.counts line
      ≡ slice_index l.initial.counts line + times_read line (take l.line-index l.reads);
  total : sum l.counts ≡ sum l.initial.counts + l.line-index;
}
