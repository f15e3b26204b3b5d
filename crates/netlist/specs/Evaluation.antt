-- One evaluator for all kinds of value: given at the sources, and computed at each gate from the values at its pins
-- (this project's own; Boolean values, three-valued ones and waves are instances of it).
use Rattle.std.specs.Prelude.{ℕ, zero, suc, ◌-◌, List, map, if◌then◌else◌, nat_lt}
use Rattle.netlist.specs.Circuit.{Circuit, source_count, gate_count, pins_at}

-- the value of a line, where one looks back through so many gates at most
abbrev pub value_within : {V : Type 0} → Circuit → (ℕ → V) → (ℕ → List V → V) → ℕ → ℕ → V
value_within c base step zero line = base line
value_within c base step (suc gates) line =
    if nat_lt line (source_count c)
    then base line
    else step (line - source_count c) (map (λ pin. value_within c base step gates pin.0) (pins_at c (line - source_count c)))

-- the value of a line: base at a source, step at a gate; in a circuit without loops no line lies behind more gates
-- than there are
abbrev pub value_of : {V : Type 0} → Circuit → (ℕ → V) → (ℕ → List V → V) → ℕ → V
value_of c base step line = value_within c base step (gate_count c) line
