-- What is seen of late paths on the waves of a replay (robust tests under rise and fall delays).
use Rattle.std.specs.Prelude.{◌≡◌, ◌≢◌, ℕ, ◌<◌, pos, ◌<ℤ◌, ℤ, Bool, false, List, length, slice_index_or}
use Rattle.pd_base.specs.declared.fault.Direction.{Direction}
use Rattle.pd_base.specs.declared.fault.Kind.TheVariants.{Robust}
use Rattle.pd_base.specs.Pair.{Vectors}
use Rattle.pd_base.specs.Route.{Route}
use Rattle.pd_base.specs.Target.{target_of}
use Rattle.netlist.specs.Circuit.{Circuit, line_count}
use Rattle.netlist.specs.Values.{value}
use Rattle.netlist.specs.Paths.{IsPrefix, end_of}
use Rattle.netlist.specs.Conditions.{Meets}
use Rattle.rise_fall.specs.Waves.{RiseFallDelays, final_length, rise_fall_wave}
use Rattle.delay_replay.specs.Changes.{Changes, wave_at}
use Rattle.delay_replay.specs.LineWaves.{kept_wave}

-- these are the values of all lines under a vector, by line number
pub record AreValuesUnder (c : Circuit) (vector values : List Bool) : Type 0 where
  pub one_each : length values ≡ line_count c
  pub each : (line : ℕ) → line < line_count c → slice_index_or values line false ≡ value c vector line

-- at this time the end of a path has another value than its final one
abbrev pub IsLateAt : Circuit → Vectors → RiseFallDelays → Route → ℤ → Type 0
IsLateAt c pair delays path time = rise_fall_wave c pair delays (end_of c path) time ≢ value c pair.second (end_of c path)

-- Of each path for which the pair is a robust test, at each time below its length for the final values, the end isn't at its
-- final value.
abbrev pub ShowsLatePaths : Circuit → Vectors → RiseFallDelays → List Changes → Type 0
ShowsLatePaths c pair delays waves =
    (path : Route) (direction : Direction) → IsPrefix c path → Meets c (target_of path direction Robust) pair
    → (time : ℤ) → time <ℤ pos (final_length delays c pair.second path)
    → wave_at (kept_wave waves (end_of c path)) time ≢ value c pair.second (end_of c path)
