-- The conditions on the side pins of one gate, judged by what was computed of all lines (this project's own; what is asked of
-- side pins is said in the crate netlist).
use Rattle.std.specs.Prelude.{◌≡◌, ◌≢◌, ℕ, Bool, List, slice_get, is_some, Some}
use Rattle.pd_base.specs.declared.ids.LineId.{LineId}
use Rattle.netlist.specs.declared.side_conditions.SideCondition.{SideCondition}
use Rattle.netlist.specs.Conditions.{Allows}
use Rattle.logic_values.specs.Known.{bit_at, known_at}
use Rattle.logic_values.specs.declared.steadiness.Steady.{Steady}

-- Each pin of a gate but the on-path one is allowed, where one list has each line's value under the second vector, and the
-- other at which value the line is steady.
abbrev pub SidesPass : SideCondition → List Bool → List Steady → ℕ → List LineId → Type 0
SidesPass condition finals steadiness on_path pins =
    (pin : ℕ) (side : LineId) → pin ≢ on_path → slice_get pins pin ≡ Some side
    → Allows condition (bit_at finals side.0) (is_some (known_at steadiness side.0))
