-- The place of each gate in an order of gates (this project's own).
use Rattle.std.specs.Prelude.{◌≡◌, ℕ, ◌<◌, List, length, slice_index, slice_index_or}
use Rattle.pd_base.specs.declared.ids.GateId.{GateId}

-- the gate at a place of a list
abbrev pub ranked_gate : List GateId → ℕ → GateId
ranked_gate gates place = slice_index_or gates place (record { 0 = 0 })

-- the number that each gate of a list has is its place there
pub record AreRanks (order : List GateId) (ranks : List ℕ) : Type 0 where
  pub each : (place : ℕ) → place < length order → slice_index ranks (ranked_gate order place).0 ≡ place
