-- Until when a line can change (transport delay at each pin; the greatest sum of delays along the prefixes that end at it).
use Rattle.std.specs.Prelude.{◌≡◌, ℕ, ◌+◌, ◌<◌, ◌≤◌, List, [], ◌∷◌}
use Rattle.pd_base.specs.Route.{Route}
use Rattle.netlist.specs.Circuit.{Circuit, line_count}
use Rattle.netlist.specs.Evaluation.{value_of}
use Rattle.netlist.specs.Greatest.{greatest}
use Rattle.netlist.specs.Paths.{IsPrefix, end_of, length_of}
use Rattle.netlist.specs.Waves.{Delays}

-- what the pins of a gate add to the times of their lines, from this pin on: each its delay
abbrev pub delayed : Delays → ℕ → ℕ → List ℕ → List ℕ
delayed delays gate pin [] = []
delayed delays gate pin (time ∷ times) =
    (time + delays (record { gate = record { 0 = gate }; pin = pin })) ∷ delayed delays gate (pin + 1) times

-- The time from which on a line keeps its value under the second vector: 0 at a source, and at a gate the greatest of the
-- times of its pins' lines, each with the pin's delay.
abbrev pub latest_change : Circuit → Delays → ℕ → ℕ
latest_change c delays line = value_of c (λ source. 0) (λ gate times. greatest (delayed delays gate 0 times)) line

-- the bound is the greatest sum of delays along the prefixes that end at the line
pub record IsGreatestLength (c : Circuit) (delays : Delays) (line bound : ℕ) : Type 0 where
  pub at_most : (prefix : Route) → IsPrefix c prefix → end_of c prefix ≡ line → length_of delays prefix ≤ bound
  pub longest : Route
  pub is_prefix : IsPrefix c longest
  pub ends : end_of c longest ≡ line
  pub reached : length_of delays longest ≡ bound

-- the latest change of each line is that greatest sum
abbrev pub AreGreatestLengths : Circuit → Delays → Type 0
AreGreatestLengths c delays =
    (line : ℕ) → line < line_count c → IsGreatestLength c delays line (latest_change c delays line)

-- the latest change of no line is after this time
abbrev pub ComeBy : Circuit → Delays → ℕ → Type 0
ComeBy c delays bound = (line : ℕ) → line < line_count c → latest_change c delays line ≤ bound
