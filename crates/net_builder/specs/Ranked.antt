-- Gates with their levels (this project's own).
use Rattle.std.specs.Prelude.{ℕ, ◌+◌, ◌-◌, List, map, length, slice_index}
use Rattle.std.specs.List.{range_with_len}
use Rattle.pd_base.specs.declared.ids.GateId.{GateId}

-- the level and the number of each gate behind so many sources, by number
abbrev pub gates_with_levels : ℕ → List ℕ → List (ℕ × ℕ)
gates_with_levels sources levels =
    map (λ gate. (slice_index levels (sources + gate), gate)) (range_with_len 0 (length levels - sources))

-- the gates alone, in the same order
abbrev pub gates_in : List (ℕ × ℕ) → List GateId
gates_in ranked = map (λ pair. record { 0 = pair.1 }) ranked
