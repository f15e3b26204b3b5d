use Rattle.std.proofs.Common.{◌≡◌, ◌<◌, ℕ, All, Contains, slice_index}
use Rattle.net_builder.specs.Progress.{WaitsForNone}
use Rattle.net_builder.proofs.progress.idle_gates.Given as goal

-- exactly the idle gates before this one are on the list
abbrev pub invariant-loop-gate : goal.invariant-loop-gate
invariant-loop-gate l = record {
  idle : All (WaitsForNone l.waits) l.ready.items;
  whole : (gate : ℕ) → gate < l.gate → slice_index l.waits gate ≡ 0 → Contains l.ready.items (record { 0 = gate });
}
