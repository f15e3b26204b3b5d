-- Lines that a transition reaches, in words that are spoken inside this crate alone (this project's own).
use Rattle.std.specs.Prelude.{◌≡◌, ℕ, ◌<◌, ◌⊎◌, ◌++◌, Bool, true, List, slice_get, Some, Contains}
use Rattle.pd_base.specs.declared.ids.LineId.{LineId}
use Rattle.netlist.specs.Circuit.{Circuit, gate_count, gate_line, pins_at}
use Rattle.cones.specs.FoundLines.{FoundSet}
use Rattle.hulls.specs.Awaiting.{is_inside}

-- each gate inside that reads the line has its own line among these
abbrev pub AreReadersIn : Circuit → List Bool → LineId → List LineId → Type 0
AreReadersIn c inside line lines = (gate pin : ℕ) → gate < gate_count c → is_inside inside gate ≡ true
    → slice_get (pins_at c gate) pin ≡ Some line → Contains lines (record { 0 = gate_line c gate })

-- the line is that of a gate inside
abbrev pub IsOfGateInside : Circuit → List Bool → ℕ → Type 0
IsOfGateInside c inside line = (gate : ℕ) × (gate < gate_count c) × (is_inside inside gate ≡ true) × (line ≡ gate_line c gate)

-- lines of gates inside were found, behind those that stood there
pub record HasMore (c : Circuit) (inside : List Bool) (old new : FoundSet) : Type 0 where
  pub room : new.room ≡ old.room
  pub more : List LineId
  pub behind : new.lines ≡ old.lines ++ more
  pub sound : (line : ℕ) → Contains new.lines (record { 0 = line }) → Contains old.lines (record { 0 = line }) ⊎ IsOfGateInside c inside line
