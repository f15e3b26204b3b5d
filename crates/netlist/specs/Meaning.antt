-- What a test shows: a late path, a wrong sample, settled sides (path delay faults under transport delays).
use Rattle.std.specs.Prelude.{◌≡◌, ◌≢◌, ⊤, ℕ, ℤ, pos, ◌-ℤ◌, ◌<ℤ◌, List, [], ◌∷◌, sum_by}
use Rattle.pd_base.specs.declared.ids.LineId.{LineId}
use Rattle.pd_base.specs.declared.ids.PinRef.{PinRef}
use Rattle.pd_base.specs.Pair.{Vectors}
use Rattle.pd_base.specs.Route.{Route}
use Rattle.netlist.specs.Circuit.{Circuit}
use Rattle.netlist.specs.Values.{value}
use Rattle.netlist.specs.Waves.{Delays, wave_of}
use Rattle.netlist.specs.Paths.{IsPrefixOf, IsSide, end_of, length_of}

-- the path is longer than the time of sampling
abbrev pub IsLate : Route → Delays → ℤ → Type 0
IsLate path delays time = time <ℤ pos (length_of delays path)

-- what is sampled at the path's end is not the value that the second vector leads to
abbrev pub IsWrong : Circuit → Route → Vectors → Delays → ℤ → Type 0
IsWrong c path pair delays time = wave_of c pair delays (end_of c path) time ≢ value c pair.second (end_of c path)

-- under each delay assignment, whenever the path is late the sample is wrong
abbrev pub Detects : Circuit → Route → Vectors → Type 0
Detects c path pair =
    (delays : Delays) (time : ℤ) → IsLate path delays time → IsWrong c path pair delays time

-- at each time below this length the line has its value under the first vector
abbrev pub IsUnchangedBelow : Circuit → Vectors → Delays → ℕ → ℕ → Type 0
IsUnchangedBelow c pair delays line length =
    (time : ℤ) → time <ℤ pos length → wave_of c pair delays line time ≡ value c pair.first line

-- the last line of a path, or of a prefix, has other values under the two vectors, and changes no earlier than at the length
pub record ChangesNoEarlier (c : Circuit) (path : Route) (pair : Vectors) (delays : Delays) : Type 0 where
  pub differs : value c pair.first (end_of c path) ≢ value c pair.second (end_of c path)
  pub unchanged : IsUnchangedBelow c pair delays (end_of c path) (length_of delays path)

-- under each delay assignment, the last line of each prefix changes no earlier than at the prefix's length
abbrev pub HoldsBack : Circuit → Route → Vectors → Type 0
HoldsBack c path pair =
    (delays : Delays) (prefix : Route) → IsPrefixOf prefix path → ChangesNoEarlier c prefix pair delays

-- the line that a pin reads has its value under the second vector at this time less the pin's delay
abbrev pub IsSettledPin : Circuit → Vectors → Delays → ℤ → PinRef → LineId → Type 0
IsSettledPin c pair delays time pin line =
    wave_of c pair delays line.0 (time -ℤ pos (delays pin)) ≡ value c pair.second line.0

-- each side pin of a step has settled, as the step's gate sees it at this time
abbrev pub AreSettledSides : Circuit → Vectors → Delays → ℤ → PinRef → Type 0
AreSettledSides c pair delays time step =
    (pin : ℕ) (side : LineId) → IsSide c step pin side
    → IsSettledPin c pair delays time (record { gate = step.gate; pin = pin }) side

-- the sides of each step have settled, read back from the time of sampling by the delays behind the step's gate
abbrev pub AreSettled : Circuit → Vectors → Delays → ℤ → List PinRef → Type 0
AreSettled c pair delays time [] = ⊤
AreSettled c pair delays time (step ∷ steps) =
    AreSettledSides c pair delays (time -ℤ pos (sum_by delays steps)) step × AreSettled c pair delays time steps

-- the path's sides have settled at a time
abbrev pub IsSettled : Circuit → Route → Vectors → Delays → ℤ → Type 0
IsSettled c path pair delays time = AreSettled c pair delays time path.steps

-- under each delay assignment, whenever the path is late and its sides have settled the sample is wrong
abbrev pub DetectsSettled : Circuit → Route → Vectors → Type 0
DetectsSettled c path pair =
    (delays : Delays) (time : ℤ) → IsLate path delays time → IsSettled c path pair delays time
    → IsWrong c path pair delays time

-- Under each delay assignment, whenever the path is late and its sides have settled, so is each prefix wrong, read back from
-- the time of sampling by the delays of the steps behind it.
abbrev pub DetectsSettledAlong : Circuit → Route → Vectors → Type 0
DetectsSettledAlong c path pair =
    (delays : Delays) (time : ℤ) → IsLate path delays time → IsSettled c path pair delays time
    → (prefix : Route) (on : IsPrefixOf prefix path)
    → IsWrong c prefix pair delays (time -ℤ pos (sum_by delays on.rest))
