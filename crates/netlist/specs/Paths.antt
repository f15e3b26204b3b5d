-- Paths, their prefixes, ends and lengths (path delay faults, as their field speaks of them).
use Rattle.std.specs.Prelude.{◌≡◌, ◌≢◌, ℕ, ◌<◌, ⊤, List, [], ◌∷◌, ◌++◌, sum_by, take, Contains, slice_get, Some}
use Rattle.pd_base.specs.declared.ids.LineId.{LineId}
use Rattle.pd_base.specs.declared.ids.PinRef.{PinRef}
use Rattle.pd_base.specs.Route.{Route}
use Rattle.netlist.specs.Circuit.{Circuit, source_count, gate_line, pins_at, observed_lines}
use Rattle.netlist.specs.Pins.{IsPinOn}
use Rattle.netlist.specs.Waves.{Delays}

-- the steps lead on from this line: the pin of each reads the line that was reached before it
abbrev pub Connects : Circuit → ℕ → List PinRef → Type 0
Connects c line [] = ⊤
Connects c line (step ∷ steps) = IsPinOn c step line × Connects c (gate_line c step.gate.0) steps

-- the line to which these steps lead from a line
abbrev pub line_after : Circuit → ℕ → List PinRef → ℕ
line_after c line [] = line
line_after c line (step ∷ steps) = line_after c (gate_line c step.gate.0) steps

-- the last line
abbrev pub end_of : Circuit → Route → ℕ
end_of c path = line_after c path.source.0 path.steps

-- a source, and steps that connect from it
pub record IsPrefix (c : Circuit) (path : Route) : Type 0 where
  pub source : path.source.0 < source_count c
  pub connects : Connects c path.source.0 path.steps

-- a prefix whose last line is observed
pub record IsPath (c : Circuit) (path : Route) : Type 0 where
  pub prefix : IsPrefix c path
  pub observed : Contains (observed_lines c) (record { 0 = end_of c path })

-- route p is a prefix of route q: it has the same source and the first steps, and the rest leads on to q's end
pub record IsPrefixOf (p q : Route) : Type 0 where
  pub source : p.source ≡ q.source
  pub rest : List PinRef
  pub steps : p.steps ++ rest ≡ q.steps

-- the prefix of so many steps, or the whole route where it has fewer
abbrev pub prefix_of : ℕ → Route → Route
prefix_of count path = record { source = path.source; steps = take count path.steps }

-- the sum of the delays at the pins of the steps, in delay units
abbrev pub length_of : Delays → Route → ℕ
length_of delays path = sum_by delays path.steps

-- a side pin of a step, and the line that it reads: any other pin of the step's gate, also one on the on-path line
pub record IsSide (c : Circuit) (step : PinRef) (pin : ℕ) (line : LineId) : Type 0 where
  pub other : pin ≢ step.pin
  pub reads : slice_get (pins_at c step.gate.0) pin ≡ Some line
