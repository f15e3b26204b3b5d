use Rattle.std.proofs.Common.{◌≡◌, ◌≢◌, ℕ, ◌<◌, slice_get, Some}
use Rattle.pd_base.specs.declared.ids.LineId.{LineId}
use Rattle.netlist.specs.Conditions.{Allows}
use Rattle.pair_judging.specs.ConeStates.{state_in}
use Rattle.pair_judging.proofs.path_states.failing_side.Given as goal

-- the sides before this pin are allowed
abbrev pub invariant-loop-pin : goal.invariant-loop-pin
invariant-loop-pin g l =
    (pin : ℕ) → pin < l.pin → (side : LineId) → pin ≢ l.on_path → slice_get l.pins pin ≡ Some side
    → Allows l.condition (g.A.Algebra.algebra.last (state_in l.states side.0)) (g.A.Algebra.algebra.steady (state_in l.states side.0))
