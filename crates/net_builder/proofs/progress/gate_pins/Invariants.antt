use Rattle.std.proofs.Common.{◌≡◌, ◌<◌, ℕ, [], length, sum_by, slice_index, slice_index_or}
use Rattle.net_builder.specs.Progress.{one_of_gate}
use Rattle.net_builder.proofs.progress.gate_pins.Given as goal

-- the gates before this one are counted
abbrev pub invariant-loop-gate : goal.invariant-loop-gate
invariant-loop-gate l = record {
  long : length l.waits.items ≡ l.gate;
  counts : (gate : ℕ) → gate < l.gate → slice_index l.waits.items gate
      ≡ sum_by (λ line. one_of_gate l.sources line.0) (slice_index_or l.pins gate []);
}
