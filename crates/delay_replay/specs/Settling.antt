-- What is read of kept waves at a time: samples of the observed lines, and whether the sides of a path have settled. Whose
-- waves they are doesn't matter here; Meaning.antt of netlist says the same of the waves of a circuit.
use Rattle.std.specs.Prelude.{◌≢◌, ⊤, ℕ, ℤ, pos, ◌-ℤ◌, Bool, List, [], ◌∷◌, map, sum_by}
use Rattle.pd_base.specs.declared.ids.LineId.{LineId}
use Rattle.pd_base.specs.declared.ids.PinRef.{PinRef}
use Rattle.pd_base.specs.Pair.{Vectors}
use Rattle.netlist.specs.Circuit.{Circuit, observed_lines}
use Rattle.netlist.specs.Paths.{IsSide}
use Rattle.netlist.specs.Waves.{Delays, Wave, wave_of}
use Rattle.delay_replay.specs.Changes.{Changes, wave_at}
use Rattle.delay_replay.specs.LineWaves.{EndsAt, kept_wave}

-- what is sampled of kept waves at a time, by observed line
abbrev pub samples : Circuit → List Changes → ℤ → List Bool
samples c waves time = map (λ line. wave_at (kept_wave waves line.0) time) (observed_lines c)

-- what the observed lines have at a time, where the lines have these waves
abbrev pub observed_under : Circuit → (ℕ → Wave) → ℤ → List Bool
observed_under c wave time = map (λ line. wave line.0 time) (observed_lines c)

-- what they have under a pair and a delay assignment
abbrev pub observed_at : Circuit → Vectors → Delays → ℤ → List Bool
observed_at c pair delays time = observed_under c (wave_of c pair delays) time

-- at this time the wave has the value that it has behind all its changes
pub record HasSettled (changes : Changes) (time : ℤ) : Type 0 where
  pub settled : EndsAt changes (wave_at changes time)

-- a pin of a step's gate is the step's own, or has settled, as the gate sees it at this time
abbrev pub IsOwnOrSettled : Delays → Changes → ℤ → PinRef → ℕ → Type 0
IsOwnOrSettled delays changes time step pin =
    pin ≢ step.pin → HasSettled changes (time -ℤ pos (delays (record { gate = step.gate; pin = pin })))

-- each side pin of a step has settled, as the step's gate sees it at this time: the wave of its line less the pin's delay
abbrev pub HaveSidesSettled : Circuit → Delays → List Changes → ℤ → PinRef → Type 0
HaveSidesSettled c delays waves time step =
    (pin : ℕ) (side : LineId) → IsSide c step pin side
    → HasSettled (kept_wave waves side.0) (time -ℤ pos (delays (record { gate = step.gate; pin = pin })))

-- the sides of each step have settled, read back from the time by the delays behind the step's gate
abbrev pub HaveSettled : Circuit → Delays → List Changes → ℤ → List PinRef → Type 0
HaveSettled c delays waves time [] = ⊤
HaveSettled c delays waves time (step ∷ steps) =
    HaveSidesSettled c delays waves (time -ℤ pos (sum_by delays steps)) step × HaveSettled c delays waves time steps
