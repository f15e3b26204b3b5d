-- The pins of some gates that read a line, as one list (this project's own).
use Rattle.std.specs.Prelude.{ℕ, ◌+◌, ◌==◌, List, [], ◌∷◌, ◌++◌, if◌then◌else◌}
use Rattle.pd_base.specs.declared.ids.LineId.{LineId}
use Rattle.pd_base.specs.declared.ids.PinRef.{PinRef}

-- this pin of this gate
abbrev pub gate_pin : ℕ → ℕ → PinRef
gate_pin gate pin = record { gate = record { 0 = gate }; pin = pin }

-- the pins of a gate that read a line, from this pin on
abbrev pub own_readers : ℕ → ℕ → List LineId → ℕ → List PinRef
own_readers gate pin [] line = []
own_readers gate pin (read ∷ reads) line =
    (if read.0 == line then gate_pin gate pin ∷ [] else []) ++ own_readers gate (pin + 1) reads line

-- the pins of all gates that read a line, from this gate on
abbrev pub readers : ℕ → List (List LineId) → ℕ → List PinRef
readers gate [] line = []
readers gate (reads ∷ more) line = own_readers gate 0 reads line ++ readers (gate + 1) more line
