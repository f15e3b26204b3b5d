-- What is read of statements that are those of sources, one of an output, and those of gates.
use Rattle.std.proofs.Common.{◌≡◌, ◌+◌, ℕ, List, [], ◌∷◌, ◌++◌, length, map, append-nil, refl, sym, ap, ◌∙◌, subst, arith}
use Rattle.std.specs.List.{All, Contains, flat_map}
use Rattle.std.proofs.lemmas.List.{length-map}
use Rattle.std.proofs.lemmas.List.Elements.{All-tail, All-weaker}
use Rattle.std.proofs.lemmas.List.Sums.{sum_by-cons}
use Rattle.netlist.specs.Circuit.{Circuit, distinct_lines}
use Rattle.netlist.specs.Description.{AreDefined, AreDistinct, NamedFlop, NamedGate, defined_names, definitions, described, flop_on, flops, gate_on, gates, inputs, line_named, names_by_line, outputs, pins_in, stated_pins, used_names}
use Rattle.netlist.specs.Statements.{Numbered}
use Rattle.net_builder.proofs.ByLine.{Differ, as_many_lines, is_defined, lines_distinct}
use Rattle.net_builder.proofs.Exclusive.{names_of_definitions}
use Rattle.ladder.specs.Statements.{gate_stated, input_stated, output_stated}

-- the arguments of gates, one gate behind another
abbrev pub all_arguments : List NamedGate → List (List ℕ)
all_arguments list = flat_map (λ gate. gate.arguments) list

-- gates alone

no_inputs : (list : List NamedGate) → inputs (map gate_stated list) ≡ []
no_inputs [] = refl
no_inputs (gate ∷ list) = no_inputs list

no_outputs : (list : List NamedGate) → outputs (map gate_stated list) ≡ []
no_outputs [] = refl
no_outputs (gate ∷ list) = no_outputs list

no_flops : (list : List NamedGate) → flops (map gate_stated list) ≡ []
no_flops [] = refl
no_flops (gate ∷ list) = no_flops list

only_gates : (list : List NamedGate) → gates (map gate_stated list) ≡ list
only_gates [] = refl
only_gates (gate ∷ list) = ap (λ rest. gate ∷ rest) (only_gates list)

only_arguments : (list : List NamedGate) → used_names (map gate_stated list) ≡ all_arguments list
only_arguments [] = refl
only_arguments (gate ∷ list) = ap (λ rest. gate.arguments ++ rest) (only_arguments list)

-- each gate has two pins
only_pins : (list : List NamedGate) → All (λ gate. length gate.arguments ≡ 2) list → stated_pins (map gate_stated list) ≡ length list + length list
only_pins [] two = refl
only_pins (gate ∷ list) two =
    let here : length gate.arguments ≡ 2 = two 0 gate (omega arith) in
    let rest = only_pins list (All-tail (λ (g : NamedGate). length g.arguments ≡ 2) gate list two) in
    let more = sum_by-cons (λ (s : Numbered). pins_in s.statement) (gate_stated gate) (map gate_stated list) in
    omega (arith, more, rest, here)

module _ (output : List ℕ) (list : List NamedGate) where
  -- the statements of sources of these names, and behind them those of the output and of the gates
  abbrev pub stated : List (List ℕ) → List Numbered
  stated sources = map input_stated sources ++ output_stated output ∷ map gate_stated list

  inputs_are : (sources : List (List ℕ)) → inputs (stated sources) ≡ sources
  inputs_are [] = no_inputs list
  inputs_are (name ∷ sources) = ap (λ rest. name ∷ rest) (inputs_are sources)

  outputs_are : (sources : List (List ℕ)) → outputs (stated sources) ≡ output ∷ []
  outputs_are [] = ap (λ rest. output ∷ rest) (no_outputs list)
  outputs_are (name ∷ sources) = outputs_are sources

  flops_are : (sources : List (List ℕ)) → flops (stated sources) ≡ []
  flops_are [] = no_flops list
  flops_are (name ∷ sources) = flops_are sources

  gates_are : (sources : List (List ℕ)) → gates (stated sources) ≡ list
  gates_are [] = only_gates list
  gates_are (name ∷ sources) = gates_are sources

  pub uses_are : (sources : List (List ℕ)) → used_names (stated sources) ≡ output ∷ all_arguments list
  uses_are [] = ap (λ rest. output ∷ rest) (only_arguments list)
  uses_are (name ∷ sources) = uses_are sources

  pub pins_are : All (λ gate. length gate.arguments ≡ 2) list → (sources : List (List ℕ))
      → stated_pins (stated sources) ≡ length list + length list
  pins_are two [] =
      let more = sum_by-cons (λ (s : Numbered). pins_in s.statement) (output_stated output) (map gate_stated list) in
      let rest = only_pins list two in
      omega (arith, more, rest)
  pins_are two (name ∷ sources) =
      let more = sum_by-cons (λ (s : Numbered). pins_in s.statement) (input_stated name) (stated sources) in
      let rest = pins_are two sources in
      omega (arith, more, rest)

  module _ (sources : List (List ℕ)) where
    -- the names of the lines, by line number
    abbrev pub names : List (List ℕ)
    names = sources ++ map (λ gate. gate.name) list

    -- the circuit that the statements describe
    abbrev pub circuit : Circuit
    circuit = record {
      sources = sources;
      gates = map (gate_on names) list;
      outputs = line_named names output ∷ [];
      flops = [];
    }

    pub names_are : names_by_line (stated sources) ≡ names
    names_are =
        (λ i. (inputs_are sources i ++ map (λ (flop : NamedFlop). flop.name) (flops_are sources i))
        ++ map (λ (gate : NamedGate). gate.name) (gates_are sources i))
        ∙ ap (λ front. front ++ map (λ (gate : NamedGate). gate.name) list) (append-nil sources)

    -- the circuit of these inputs, outputs, flip-flops and gates
    abbrev circuit_with : List (List ℕ) → List (List ℕ) → List (List ℕ) → List NamedFlop → List NamedGate → Circuit
    circuit_with all firsts lasts latches drivers = record {
      sources = firsts;
      gates = map (gate_on all) drivers;
      outputs = distinct_lines (map (line_named all) lasts);
      flops = map (flop_on all) latches;
    }

    pub described_is : described (stated sources) ≡ circuit
    described_is =
        λ i. circuit_with (names_are i)
        (((λ j. inputs_are sources j ++ map (λ (flop : NamedFlop). flop.name) (flops_are sources j)) ∙ append-nil sources) i)
        (outputs_are sources i) (flops_are sources i) (gates_are sources i)

    -- where the names differ, each is defined once
    pub distinct : Differ names → AreDistinct (stated sources)
    distinct differ = lines_distinct (stated sources) (subst Differ (sym names_are) differ)

    -- as many lines are defined as there are names
    pub line_total : length (definitions (stated sources)) ≡ length names
    line_total =
        let named = ap length (names_of_definitions (stated sources)) in
        let mapped = length-map (definitions (stated sources)) (λ mention. mention.name) in
        let many = as_many_lines (stated sources) in
        let same = ap length names_are in
        omega (arith, named, mapped, many, same)

    -- where each name that is used is one of them, each is defined
    pub defined : All (Contains names) (output ∷ all_arguments list) → AreDefined (stated sources)
    defined known =
        subst (λ (used : List (List ℕ)). All (λ name. Contains (defined_names (stated sources)) name) used) (sym (uses_are sources))
        (All-weaker (Contains names) (Contains (defined_names (stated sources)))
        (λ name has. is_defined (stated sources) name (subst (λ (all : List (List ℕ)). Contains all name) (sym names_are) has))
        (output ∷ all_arguments list) known)
