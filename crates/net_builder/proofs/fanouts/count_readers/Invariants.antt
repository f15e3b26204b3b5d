use Rattle.std.proofs.Common.{◌≡◌, ℕ, length, slice_index, sum, sum_by, take}
use Rattle.net_builder.specs.Wiring.{times_read}
use Rattle.net_builder.proofs.fanouts.count_readers.Given as goal

-- the pins of the gates before this one are counted
abbrev pub invariant-loop-gate : goal.invariant-loop-gate
invariant-loop-gate l = record {
  long : length l.counts.items ≡ l.lines;
  counts : (line : ℕ) → slice_index l.counts.items line ≡ sum_by (times_read line) (take l.gate l.pins);
  total : sum l.counts.items ≡ sum_by length (take l.gate l.pins);
}
