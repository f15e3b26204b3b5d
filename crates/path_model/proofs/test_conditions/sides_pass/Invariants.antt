use Rattle.std.proofs.Common.{◌≡◌, ◌≢◌, ℕ, ◌<◌, slice_get, is_some, Some}
use Rattle.pd_base.specs.declared.ids.LineId.{LineId}
use Rattle.netlist.specs.Conditions.{Allows}
use Rattle.logic_values.specs.Known.{bit_at, known_at}
use Rattle.path_model.proofs.test_conditions.sides_pass.Given as goal

-- the sides before this pin are allowed
abbrev pub invariant-loop-pin : goal.invariant-loop-pin
invariant-loop-pin l =
    (pin : ℕ) → pin < l.pin → (side : LineId) → pin ≢ l.on_path → slice_get l.pins pin ≡ Some side
    → Allows l.condition (bit_at l.finals side.0) (is_some (known_at l.steadiness side.0))
