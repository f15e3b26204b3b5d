-- What makes a circuit: its names, its pins, no loop, and the limits (ISCAS .bench; the limits are this project's own).
use Rattle.std.specs.Prelude.{◌≡◌, ◌≢◌, ⊤, ℕ, ◌-◌, ◌<◌, ◌≤◌, List, [], ◌∷◌, length, map, slice_get, Some, All, AllPairs}
use Rattle.std.specs.List.{range_with_len}
use Rattle.netlist.specs.declared.kind.GateKind.{GateKind}
use Rattle.netlist.specs.declared.kind.GateKind.TheVariants.{And, Nand, Or, Nor, Xor, Xnor, Not, Buff}
use Rattle.netlist.specs.declared.limits.TheConstants.{MOST_LINES, MOST_PINS, MOST_FAN_IN, MOST_LEVELS}
use Rattle.netlist.specs.Circuit.{Circuit, HasLines, source_count, gate_count, line_count, gate_line, kind_at, pins_at, line_names, data_lines}
use Rattle.netlist.specs.Names.{IsName}
use Rattle.netlist.specs.Pins.{pin_total}
use Rattle.netlist.specs.Levels.{greatest_level}

-- from 1 up to the most pins of one gate
pub record IsManyPins (count : ℕ) : Type 0 where
  pub some : 1 ≤ count
  pub few : count ≤ MOST_FAN_IN

-- how many pins a gate of this kind may have: NOT and BUFF one, the others one or more
abbrev pub IsFanIn : GateKind → ℕ → Type 0
IsFanIn And count = IsManyPins count
IsFanIn Nand count = IsManyPins count
IsFanIn Or count = IsManyPins count
IsFanIn Nor count = IsManyPins count
IsFanIn Xor count = IsManyPins count
IsFanIn Xnor count = IsManyPins count
IsFanIn Not count = count ≡ 1
IsFanIn Buff count = count ≡ 1

-- each pin of each gate reads a line of the circuit
abbrev pub ReadsLines : Circuit → Type 0
ReadsLines c = (gate : ℕ) → gate < gate_count c → HasLines c (pins_at c gate)

-- some pin of the first gate reads the line of the second
abbrev pub ReadsGate : Circuit → ℕ → ℕ → Type 0
ReadsGate c reader gate = (pin : ℕ) × (slice_get (pins_at c reader) pin ≡ Some (record { 0 = gate_line c gate }))

-- each of these gates reads the next
abbrev pub ReadsOn : Circuit → List ℕ → Type 0
ReadsOn c [] = ⊤
ReadsOn c (gate ∷ []) = ⊤
ReadsOn c (gate ∷ next ∷ more) = ReadsGate c gate next × ReadsOn c (next ∷ more)

-- a gate on a loop, or fed by one: one can go back from it, gate by gate, through more gates than there are
abbrev pub IsLooped : Circuit → ℕ → Type 0
IsLooped c gate = (more : List ℕ) × (length more ≡ gate_count c) × ReadsOn c (gate ∷ more)

-- no gate is looped
abbrev pub IsLoopFree : Circuit → Type 0
IsLoopFree c = (gate : ℕ) → gate < gate_count c → ¬ IsLooped c gate

-- what is true of the circuit of every netlist
pub record IsCircuit (c : Circuit) : Type 0 where
  pub names : All IsName (line_names c)
  pub names_differ : AllPairs (λ a b. a ≢ b) (line_names c)
  pub fan_in : (gate : ℕ) → gate < gate_count c → IsFanIn (kind_at c gate) (length (pins_at c gate))
  pub reads_lines : ReadsLines c
  pub loop_free : IsLoopFree c
  pub outputs : HasLines c c.outputs
  pub outputs_once : AllPairs (λ a b. a ≢ b) c.outputs
  -- the flip-flops are the last sources, in order
  pub flops : map (λ flop. flop.0.0) c.flops ≡ range_with_len (source_count c - length c.flops) (length c.flops)
  pub flops_fit : length c.flops ≤ source_count c
  pub data_lines : HasLines c (data_lines c)
  pub few_lines : line_count c ≤ MOST_LINES
  pub few_pins : pin_total c ≤ MOST_PINS
  pub few_levels : greatest_level c ≤ MOST_LEVELS
