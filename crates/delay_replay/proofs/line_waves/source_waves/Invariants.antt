use Rattle.std.proofs.Common.{◌≡◌, ◌<◌, ◌≤◌, ℕ, length, vec_capacity}
use Rattle.netlist.specs.Circuit.{line_count}
use Rattle.netlist.specs.Waves.{source_wave}
use Rattle.delay_replay.specs.Changes.{AreChangesOf}
use Rattle.delay_replay.specs.LineWaves.{kept_wave}
use Rattle.delay_replay.proofs.line_waves.source_waves.Given as goal

-- the sources before this one have their waves
abbrev pub invariant-loop-source : goal.invariant-loop-source
invariant-loop-source l = record {
  so_many : length l.waves.items ≡ l.source;
  each : (source : ℕ) → source < l.source → AreChangesOf (source_wave l.pair source) (kept_wave l.waves.items source);
  room : line_count l.net ≤ vec_capacity l.waves;
}
