-- Values of all lines that are kept from one vector to the next (this project's own).
use Rattle.std.specs.Prelude.{◌≡◌, ℕ, ◌<◌, ◌≤◌, Bool, true, false, List, length, map, slice_index}
use Rattle.pd_base.specs.declared.ids.PinRef.{PinRef}
use Rattle.netlist.specs.Circuit.{Circuit, line_count, gate_line, kind_at, pins_at}
use Rattle.netlist.specs.Pins.{IsPinOn}
use Rattle.netlist.specs.Values.{gate_value}
use Rattle.logic_values.specs.Known.{bit_at}
use Rattle.pair_judging.specs.RankedGates.{RankedGates, gate_ranked, AreRankedGates}

-- a value for each line, and of each gate in rank order whether it is stale
pub record KeptValues : Type 0 where
  pub values : List Bool
  pub gates : RankedGates
  pub stale : List Bool

-- what a gate makes of these values of the lines that its pins read
abbrev pub value_made : Circuit → List Bool → ℕ → Bool
value_made c values gate = gate_value (kind_at c gate) (map (λ pin. bit_at values pin.0) (pins_at c gate))

-- the line of each gate has the value that the gate makes of the others, unless the gate is stale
pub record AreLineValues (c : Circuit) (kept : KeptValues) : Type 0 where
  pub lines : length kept.values ≡ line_count c
  pub ranked : AreRankedGates c kept.gates
  pub marks : length kept.stale ≡ length kept.gates.order
  pub made : (place : ℕ) → place < length kept.gates.order → bit_at kept.stale place ≡ false
      → bit_at kept.values (gate_line c (gate_ranked kept.gates place)) ≡ value_made c kept.values (gate_ranked kept.gates place)

-- the gates that read a line are stale too, each marked at its place
pub record MakesReadersStale (c : Circuit) (places : List ℕ) (line : ℕ) (old new : List Bool) : Type 0 where
  pub marks : length new ≡ length old
  pub readers : (pin : PinRef) → IsPinOn c pin line → bit_at new (slice_index places pin.gate.0) ≡ true
  pub stale : (place : ℕ) → bit_at old place ≡ true → bit_at new place ≡ true

-- none of the gates from one place to another is stale
abbrev pub AreFresh : List Bool → ℕ → ℕ → Type 0
AreFresh stale from to = (place : ℕ) → from ≤ place → place < to → bit_at stale place ≡ false

-- of the gates from a place on the one here is the first that is stale, or none is
pub record IsNextStale (stale : List Bool) (from place : ℕ) : Type 0 where
  pub behind : from ≤ place
  pub within : place ≤ length stale
  pub fresh : AreFresh stale from place
  pub first : place < length stale → bit_at stale place ≡ true
