-- The marks of gates: which step goes through each (this project's own).
use Rattle.std.specs.Prelude.{ℕ, ◌+◌, ◌-◌, ◌==◌, List, [], ◌∷◌, Option, Some, None, if◌then◌else◌}
use Rattle.pd_base.specs.declared.ids.PinRef.{PinRef}
use Rattle.pd_base.specs.declared.fault.Kind.{Kind}
use Rattle.state_sets.specs.declared.condition.Condition.{Condition}

-- the mark of a gate: one more than the pin of the first of these steps through it, or 0
abbrev pub mark_at : List PinRef → ℕ → ℕ
mark_at [] gate = 0
mark_at (step ∷ steps) gate = if step.gate.0 == gate then step.pin + 1 else mark_at steps gate

-- the condition of a gate with this mark
abbrev pub marked_condition : Kind → ℕ → Option Condition
marked_condition kind mark = if mark == 0 then None else Some (record { pin = mark - 1; kind = kind })
