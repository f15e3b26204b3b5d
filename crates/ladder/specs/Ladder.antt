-- The ladder: stages one behind another, each of which a path passes in one of two ways. So a ladder of N stages has 2^N paths from its
-- first source to its output (this project's own). The names of its lines are a letter and the number of a stage; the sources of stage
-- i are pi and qi, and its gates are ui = AND(x(i-1), pi), vi = AND(x(i-1), qi) and xi = OR(ui, vi).
use Rattle.std.specs.Prelude.{ℕ, ◌-◌, List, [], ◌∷◌, ◌++◌, map, decimal}
use Rattle.std.specs.List.{flat_map, range_with_len}
use Rattle.netlist.specs.declared.kind.GateKind.{GateKind}
use Rattle.netlist.specs.declared.kind.GateKind.TheVariants.{And, Or}
use Rattle.netlist.specs.Circuit.{Circuit}
use Rattle.netlist.specs.Description.{NamedGate, gate_on, line_named}
use Rattle.ladder.specs.declared.line.Letter.{Letter}
use Rattle.ladder.specs.declared.line.Letter.TheVariants.{X, P, Q, U, V}

-- the byte of a letter
abbrev pub letter_byte : Letter → ℕ
letter_byte X = 120
letter_byte P = 112
letter_byte Q = 113
letter_byte U = 117
letter_byte V = 118

-- the name of the line of this letter at a stage
abbrev pub ladder_name : Letter → ℕ → List ℕ
ladder_name letter stage = letter_byte letter ∷ decimal stage

-- the stages of a ladder of so many, which are numbered from 1
abbrev pub stages_of : ℕ → List ℕ
stages_of stages = range_with_len 1 stages

-- the sources of a stage
abbrev pub stage_sources : ℕ → List (List ℕ)
stage_sources stage = ladder_name P stage ∷ ladder_name Q stage ∷ []

-- the sources of a ladder: one before the first stage, and those of each stage
abbrev pub ladder_sources : ℕ → List (List ℕ)
ladder_sources stages = ladder_name X 0 ∷ flat_map stage_sources (stages_of stages)

-- a gate of this name and kind with two pins
abbrev pub two_pin_gate : List ℕ → GateKind → List ℕ → List ℕ → NamedGate
two_pin_gate name kind first second = record { name = name; kind = kind; arguments = first ∷ second ∷ [] }

-- the gates of a stage: two branches from the line that leaves the stage before, and the line that leaves this one
abbrev pub stage_gates : ℕ → List NamedGate
stage_gates stage =
    two_pin_gate (ladder_name U stage) And (ladder_name X (stage - 1)) (ladder_name P stage)
    ∷ two_pin_gate (ladder_name V stage) And (ladder_name X (stage - 1)) (ladder_name Q stage)
    ∷ two_pin_gate (ladder_name X stage) Or (ladder_name U stage) (ladder_name V stage) ∷ []

-- the gates of a ladder
abbrev pub ladder_gates : ℕ → List NamedGate
ladder_gates stages = flat_map stage_gates (stages_of stages)

-- the names of its lines by line number: sources, then gates
abbrev pub ladder_names : ℕ → List (List ℕ)
ladder_names stages = ladder_sources stages ++ map (λ gate. gate.name) (ladder_gates stages)

-- the ladder of so many stages, whose one output is the line that leaves the last of them
abbrev pub ladder_circuit : ℕ → Circuit
ladder_circuit stages = record {
  sources = ladder_sources stages;
  gates = map (gate_on (ladder_names stages)) (ladder_gates stages);
  outputs = line_named (ladder_names stages) (ladder_name X stages) ∷ [];
  flops = [];
}
