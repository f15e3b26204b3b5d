-- What a condition leaves of the sets at the pins of a gate, for one final value at the on-path pin (this project's own).
use Rattle.std.specs.Prelude.{◌≡◌, ℕ, ◌<◌, ◌==◌, List, length, if◌then◌else◌}
use Rattle.state_sets.specs.declared.state.StateSet.{StateSet}
use Rattle.state_sets.specs.States.{both_sets}
use Rattle.hulls.specs.declared.limits.Limits.{Limits}
use Rattle.hulls.specs.Sets.{set_at}

-- the states that the limits leave at a pin
abbrev pub limit_at : Limits → ℕ → StateSet
limit_at limits pin = if pin == limits.on_path then limits.at_on_path else limits.at_sides

-- the sets cut to the limits, pin by pin
pub record AreCut (limits : Limits) (sets cut : List StateSet) : Type 0 where
  pub one_each : length cut ≡ length sets
  pub each : (pin : ℕ) → pin < length sets → set_at cut pin ≡ both_sets (set_at sets pin) (limit_at limits pin)
