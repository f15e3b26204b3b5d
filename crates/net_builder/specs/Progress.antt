-- How far levels have been given to the gates: which pins still wait for a level, and which gates may be given theirs (this
-- project's own).
use Rattle.std.specs.Prelude.{◌≡◌, ◌≢◌, ℕ, ◌+◌, ◌<◌, ◌≤◌, ◌==◌, nat_lt, List, [], map, length, sum, sum_by, slice_index, slice_index_or, All, Contains, if◌then◌else◌}
use Rattle.pd_base.specs.declared.ids.LineId.{LineId}
use Rattle.pd_base.specs.declared.ids.GateId.{GateId}
use Rattle.pd_base.specs.declared.ids.PinRef.{PinRef}
use Rattle.netlist.specs.Greatest.{greatest}
use Rattle.net_builder.specs.Wiring.{times_named}

-- the level of a line; 0 also stands for none, which only a gate may have
abbrev pub level_in : List ℕ → ℕ → ℕ
level_in levels line = slice_index levels line

-- the levels of the lines that some pins read
abbrev pub levels_at : List ℕ → List LineId → List ℕ
levels_at levels pins = map (λ line. level_in levels line.0) pins

-- 1 for the line of a gate, and 0 for that of a source
abbrev pub one_of_gate : ℕ → ℕ → ℕ
one_of_gate sources line = if nat_lt line sources then 0 else 1

-- 1 for a gate's line that has no level, and else 0
abbrev pub one_without : ℕ → List ℕ → ℕ → ℕ
one_without sources levels line = if level_in levels line == 0 then one_of_gate sources line else 0

-- how many of these pins read a gate that has no level
abbrev pub waiting : ℕ → List ℕ → List LineId → ℕ
waiting sources levels pins = sum_by (λ line. one_without sources levels line.0) pins

-- 1 for a level, and 0 for none
abbrev pub one_given : ℕ → ℕ
one_given level = if level == 0 then 0 else 1

-- the level of a gate with these pins is right where those of the others are, and no higher than so many gates allow
pub record IsPlaced (sources : ℕ) (levels : List ℕ) (pins : List LineId) (level : ℕ) : Type 0 where
  pub none_waits : waiting sources levels pins ≡ 0
  pub above : level ≡ 1 + greatest (levels_at levels pins)
  pub no_higher : level ≤ sum_by one_given levels

-- the gate waits for none
abbrev pub WaitsForNone : List ℕ → GateId → Type 0
WaitsForNone waits gate = (gate.0 < length waits) × (slice_index waits gate.0 ≡ 0)

-- Some gates have their levels; for each gate it is known how many of its pins wait; and all gates that wait for none but
-- have no level are ready.
pub record IsProgress (sources : ℕ) (pins : List (List LineId)) (levels waits : List ℕ) (ready : List GateId) : Type 0 where
  pub level_each : length levels ≡ sources + length pins
  pub wait_each : length waits ≡ length pins
  pub source_levels : (line : ℕ) → line < sources → level_in levels line ≡ 0
  pub counted : (gate : ℕ) → gate < length pins
      → slice_index waits gate ≡ waiting sources levels (slice_index_or pins gate [])
  pub idle : All (WaitsForNone waits) ready
  pub awaited : (gate : ℕ) → gate < length pins → slice_index waits gate ≡ 0 → level_in levels (sources + gate) ≡ 0
      → Contains ready (record { 0 = gate })
  pub placed : (gate : ℕ) → gate < length pins → level_in levels (sources + gate) ≢ 0
      → IsPlaced sources levels (slice_index_or pins gate []) (level_in levels (sources + gate))

-- each of these pins has stopped to wait, and the gates that wait for no more are ready
pub record AreReleased (readers : List PinRef) (waits : List ℕ) (ready : List GateId) (waits_left : List ℕ)
    (ready_now : List GateId) : Type 0 where
  pub wait_each : length waits_left ≡ length waits
  pub fewer : (gate : ℕ) → gate < length waits
      → slice_index waits_left gate + times_named gate readers ≡ slice_index waits gate
  pub idle : All (WaitsForNone waits) ready → All (WaitsForNone waits_left) ready_now
  pub kept : (gate : GateId) → Contains ready gate → Contains ready_now gate
  pub found : (gate : ℕ) → gate < length waits → slice_index waits_left gate ≡ 0 → slice_index waits gate ≢ 0
      → Contains ready_now (record { 0 = gate })
  pub less_work : sum waits_left + length ready_now ≤ sum waits + length ready

-- no gate behind so many sources is without a level
abbrev pub AllGiven : ℕ → List ℕ → Type 0
AllGiven sources levels = (gate : ℕ) → sources + gate < length levels → level_in levels (sources + gate) ≢ 0

-- this gate is without a level, and no gate before it is
pub record IsFirstWithout (sources : ℕ) (levels : List ℕ) (gate : ℕ) : Type 0 where
  pub in_range : sources + gate < length levels
  pub without : level_in levels (sources + gate) ≡ 0
  pub first : (earlier : ℕ) → earlier < gate → level_in levels (sources + earlier) ≢ 0
