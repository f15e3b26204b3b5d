-- The statements of a circuit describe that circuit.
use Rattle.std.proofs.Common.{◌≡◌, ◌≢◌, ℕ, suc, ◌+◌, ◌<◌, false, not, ◌==◌, cond, List, [], ◌∷◌, ◌++◌, length, map, take, drop, filter, All, AllPairs, Contains, refl, ap, sym, ◌∙◌, subst, arith, append_assoc, append-nil, length-append, zero-add}
use Rattle.std.proofs.lemmas.Bool.Decides.{nat_tests}
use Rattle.std.proofs.lemmas.List.{get_or_append_left, get_or_default, length-map, take-append-drop}
use Rattle.std.proofs.lemmas.List.Elements.{All-from_recursion, All-take, Contains-get_or, recursion_from_All}
use Rattle.std.proofs.lemmas.List.Sums.{sum_by-append, sum_by-cons}
use Rattle.std.proofs.lemmas.Grind.{flat_map-append}
use Rattle.std.proofs.lemmas.Simd.{map-map}
use Rattle.std.specs.List.{AllByRecursion, flat_map, sum_by}
use Rattle.pd_base.specs.declared.ids.LineId.{LineId}
use Rattle.netlist.specs.declared.raw_net.RawStmt.{RawStmt}
use Rattle.netlist.specs.declared.raw_net.RawStmt.TheVariants.{Input}
use Rattle.netlist.specs.Circuit.{Circuit, Gate, HasLines, distinct_lines, gate_line, line_count, line_names, no_gate, source_count}
use Rattle.netlist.specs.Description.{AreNamed, Describes, NamedFlop, NamedGate, defined_names, definitions, described, flop_in, flop_on, flops, gate_in, gate_on, gates, input_in, inputs, line_named, names_by_line, output_in, outputs, pins_in, source_names, stated_pins, used_names}
use Rattle.netlist.specs.Lawful.{IsCircuit, IsFanIn}
use Rattle.netlist.specs.Names.{IsName, name_at}
use Rattle.netlist.specs.Pins.{pin_total}
use Rattle.netlist.specs.Statements.{IsStatement, Numbered, defined_by, used_by}
use Rattle.netlist.proofs.CircuitLines.{data_lines_in_circuit, flops_are_sources, line_names-length, name_of_gate}
use Rattle.bench_reader.specs.Canonical.{circuit_statements, flop_statement, flop_statements, gate_statement, gate_statements, input_count, input_statements, names_at, output_statement, output_statements}
use Rattle.bench_reader.proofs.NamedLines.{elements_from, line_again, lines_again}
use Rattle.bench_reader.proofs.Projections.{length_mentions, none_of_each, of_numbered, one_of_each, sum_of_each, sum_of_numbered}
use Rattle.bench_reader.proofs.StatementLines.{numbered_from}

-- a flip-flop by names
abbrev named_flop : Circuit → LineId × LineId → NamedFlop
named_flop c flop = record { name = name_at c flop.0.0; data_name = name_at c flop.1.0 }

-- a gate by names
abbrev named_gate : Circuit → Gate → NamedGate
named_gate c gate = record { name = gate.name; kind = gate.kind; arguments = names_at c gate.pins }

-- the statements of a circuit, from line 1 on
abbrev pub listed : Circuit → List Numbered
listed c = numbered_from 1 (circuit_statements c)

-- what is read off the statements, group by group
four_groups : {X : Type 0} (part : RawStmt → List X) (c : Circuit) → flat_map (λ s. part s.statement) (listed c)
    ≡ flat_map part (input_statements c) ++ (flat_map part (output_statements c)
    ++ (flat_map part (flop_statements c) ++ flat_map part (gate_statements c)))
four_groups part c =
    of_numbered part 1 (circuit_statements c)
    ∙ flat_map-append part (input_statements c) (output_statements c ++ (flop_statements c ++ gate_statements c))
    ∙ ap (λ rest. flat_map part (input_statements c) ++ rest)
    (flat_map-append part (output_statements c) (flop_statements c ++ gate_statements c)
    ∙ ap (λ rest. flat_map part (output_statements c) ++ rest) (flat_map-append part (flop_statements c) (gate_statements c)))

-- four groups, each of which is known
joined : {X : Type 0} (part : RawStmt → List X) (c : Circuit) (ins outs flip gate : List X)
    → flat_map part (input_statements c) ≡ ins → flat_map part (output_statements c) ≡ outs
    → flat_map part (flop_statements c) ≡ flip → flat_map part (gate_statements c) ≡ gate
    → flat_map (λ s. part s.statement) (listed c) ≡ ins ++ (outs ++ (flip ++ gate))
joined part c ins outs flip gate ins_are outs_are flips_are gates_are =
    four_groups part c
    ∙ ap (λ first. first ++ (flat_map part (output_statements c) ++ (flat_map part (flop_statements c) ++ flat_map part (gate_statements c)))) ins_are
    ∙ ap (λ first. ins ++ (first ++ (flat_map part (flop_statements c) ++ flat_map part (gate_statements c)))) outs_are
    ∙ ap (λ first. ins ++ (outs ++ (first ++ flat_map part (gate_statements c)))) flips_are
    ∙ ap (λ last. ins ++ (outs ++ (flip ++ last))) gates_are

-- the names of the inputs
abbrev input_names : Circuit → List (List ℕ)
input_names c = take (input_count c) c.sources

same_names : (names : List (List ℕ)) → map (λ name. name) names ≡ names
same_names [] = refl
same_names (name ∷ names) = ap (λ rest. name ∷ rest) (same_names names)

inputs_again : (c : Circuit) → inputs (listed c) ≡ input_names c
inputs_again c =
    joined input_in c (input_names c) [] [] []
    (one_of_each input_in Input (λ name. name) (λ _. refl) (input_names c) ∙ same_names (input_names c))
    (none_of_each input_in (output_statement c) (λ _. refl) c.outputs)
    (none_of_each input_in (flop_statement c) (λ _. refl) c.flops)
    (none_of_each input_in (gate_statement c) (λ _. refl) c.gates)
    ∙ append-nil (input_names c)

outputs_named : (c : Circuit) → outputs (listed c) ≡ names_at c c.outputs
outputs_named c =
    joined output_in c [] (names_at c c.outputs) [] []
    (none_of_each output_in Input (λ _. refl) (input_names c))
    (one_of_each output_in (output_statement c) (λ line. name_at c line.0) (λ _. refl) c.outputs)
    (none_of_each output_in (flop_statement c) (λ _. refl) c.flops)
    (none_of_each output_in (gate_statement c) (λ _. refl) c.gates)
    ∙ append-nil (names_at c c.outputs)

flops_named : (c : Circuit) → flops (listed c) ≡ map (named_flop c) c.flops
flops_named c =
    joined flop_in c [] [] (map (named_flop c) c.flops) []
    (none_of_each flop_in Input (λ _. refl) (input_names c))
    (none_of_each flop_in (output_statement c) (λ _. refl) c.outputs)
    (one_of_each flop_in (flop_statement c) (named_flop c) (λ _. refl) c.flops)
    (none_of_each flop_in (gate_statement c) (λ _. refl) c.gates)
    ∙ append-nil (map (named_flop c) c.flops)

gates_named : (c : Circuit) → gates (listed c) ≡ map (named_gate c) c.gates
gates_named c =
    joined gate_in c [] [] [] (map (named_gate c) c.gates)
    (none_of_each gate_in Input (λ _. refl) (input_names c))
    (none_of_each gate_in (output_statement c) (λ _. refl) c.outputs)
    (none_of_each gate_in (flop_statement c) (λ _. refl) c.flops)
    (one_of_each gate_in (gate_statement c) (named_gate c) (λ _. refl) c.gates)

-- the names of the flip-flops are the last source names
flop_names : (c : Circuit) → IsCircuit c → map (λ flop. name_at c flop.0.0) c.flops ≡ drop (input_count c) c.sources
flop_names c is =
    let count = length c.flops in
    let own = is.flops_fit in
    sym (map-map (name_at c) (λ flop. flop.0.0) c.flops)
    ∙ ap (map (name_at c)) is.flops
    ∙ elements_from c.sources (map (λ g. g.name) c.gates) [] (input_count c) count (omega arith)

-- so the sources are named in order
sources_named : (c : Circuit) → IsCircuit c → source_names (listed c) ≡ c.sources
sources_named c is =
    ap (λ first. first ++ map (λ flop. flop.name) (flops (listed c))) (inputs_again c)
    ∙ ap (λ all. input_names c ++ map (λ flop. flop.name) all) (flops_named c)
    ∙ ap (λ rest. input_names c ++ rest) (map-map (λ flop. flop.name) (named_flop c) c.flops ∙ flop_names c is)
    ∙ take-append-drop (input_count c) c.sources

-- and so are all lines
lines_named : (c : Circuit) → IsCircuit c → names_by_line (listed c) ≡ line_names c
lines_named c is =
    ap (λ first. first ++ map (λ gate. gate.name) (gates (listed c))) (sources_named c is)
    ∙ ap (λ all. c.sources ++ map (λ gate. gate.name) all) (gates_named c)
    ∙ ap (λ rest. c.sources ++ rest) (map-map (λ gate. gate.name) (named_gate c) c.gates)

-- the pins of each gate read lines of the circuit
gate_lines : (c : Circuit) → IsCircuit c → AllByRecursion (λ g. HasLines c g.pins) c.gates
gate_lines c is =
    recursion_from_All (λ g. HasLines c g.pins) c.gates
    (λ gate d below. subst (λ (g : Gate). HasLines c g.pins) (get_or_default c.gates gate no_gate d below) (is.reads_lines gate below))

gates_from : (c : Circuit) (some : List Gate) → IsCircuit c → AllByRecursion (λ g. HasLines c g.pins) some
    → map (gate_on (line_names c)) (map (named_gate c) some) ≡ some
gates_from c [] is read = refl
gates_from c (gate ∷ some) is read =
    ap (λ pins. record { name = gate.name; kind = gate.kind; pins = pins } ∷ map (gate_on (line_names c)) (map (named_gate c) some))
    (lines_again c gate.pins is (recursion_from_All (λ line. line.0 < line_count c) gate.pins read.0))
    ∙ ap (λ rest. gate ∷ rest) (gates_from c some is read.1)

gates_again : (c : Circuit) → IsCircuit c → map (gate_on (names_by_line (listed c))) (gates (listed c)) ≡ c.gates
gates_again c is =
    ap (λ names. map (gate_on names) (gates (listed c))) (lines_named c is)
    ∙ ap (map (gate_on (line_names c))) (gates_named c)
    ∙ gates_from c c.gates is (gate_lines c is)

flops_from : (c : Circuit) (some : List (LineId × LineId)) → IsCircuit c → AllByRecursion (λ flop. flop.0.0 < source_count c) some
    → AllByRecursion (λ flop. flop.1.0 < line_count c) some → map (flop_on (line_names c)) (map (named_flop c) some) ≡ some
flops_from c [] is own read = refl
flops_from c (flop ∷ some) is own read =
    let in_circuit : flop.0.0 < line_count c = let source = own.0 in omega arith in
    ap (λ line. (line, line_named (line_names c) (name_at c flop.1.0)) ∷ map (flop_on (line_names c)) (map (named_flop c) some))
    (line_again c flop.0 is in_circuit)
    ∙ ap (λ line. (flop.0, line) ∷ map (flop_on (line_names c)) (map (named_flop c) some)) (line_again c flop.1 is read.0)
    ∙ ap (λ rest. flop ∷ rest) (flops_from c some is own.1 read.1)

flops_again : (c : Circuit) → IsCircuit c → map (flop_on (names_by_line (listed c))) (flops (listed c)) ≡ c.flops
flops_again c is =
    ap (λ names. map (flop_on names) (flops (listed c))) (lines_named c is)
    ∙ ap (map (flop_on (line_names c))) (flops_named c)
    ∙ flops_from c c.flops is (recursion_from_All (λ flop. flop.0.0 < source_count c) c.flops (flops_are_sources c is))
    (recursion_from_All (λ flop. flop.1.0 < line_count c) c.flops (data_lines_in_circuit c is))

-- lines that differ have different numbers
numbers_differ : (line other : LineId) → line ≢ other → (other.0 == line.0) ≡ false
numbers_differ line other differ =
    let apart : other.0 ≢ line.0 = λ same. differ (ap (λ n. record { 0 = n }) (sym same)) in grind (arith, nat_tests)

-- lines that differ from one keep their places where it is dropped
others_kept : (line : LineId) (lines : List LineId) → AllByRecursion (λ other. line ≢ other) lines
    → filter (λ other. not (other.0 == line.0)) lines ≡ lines
others_kept line [] differ = refl
others_kept line (other ∷ lines) differ =
    let apart : (other.0 == line.0) ≡ false = numbers_differ line other differ.0 in
    ap (λ same. cond (not same) (other ∷ filter (λ other. not (other.0 == line.0)) lines) (filter (λ other. not (other.0 == line.0)) lines)) apart
    ∙ ap (λ rest. other ∷ rest) (others_kept line lines differ.1)

-- lines that stand once each are the same where repeated ones are dropped
all_once : (lines : List LineId) → AllPairs (λ a b. a ≢ b) lines → distinct_lines lines ≡ lines
all_once [] once = refl
all_once (line ∷ lines) once =
    let behind : AllPairs (λ a b. a ≢ b) lines = λ i j d less below. once (suc i) (suc j) d (omega arith) (omega arith) in
    let first : All (λ other. line ≢ other) lines = λ k d below. once 0 (suc k) d (omega arith) (omega arith) in
    ap (λ rest. line ∷ filter (λ other. not (other.0 == line.0)) rest) (all_once lines behind)
    ∙ ap (λ rest. line ∷ rest) (others_kept line lines (recursion_from_All (λ other. line ≢ other) lines first))

outputs_again : (c : Circuit) → IsCircuit c → distinct_lines (map (line_named (names_by_line (listed c))) (outputs (listed c))) ≡ c.outputs
outputs_again c is =
    ap (λ names. distinct_lines (map (line_named names) (outputs (listed c)))) (lines_named c is)
    ∙ ap (λ some. distinct_lines (map (line_named (line_names c)) some)) (outputs_named c)
    ∙ ap distinct_lines (lines_again c c.outputs is (recursion_from_All (λ line. line.0 < line_count c) c.outputs is.outputs))
    ∙ all_once c.outputs is.outputs_once

-- what the statements say is the circuit
described_again : (c : Circuit) → IsCircuit c → described (listed c) ≡ c
described_again c is =
    let all = listed c in
    let named_outputs = distinct_lines (map (line_named (names_by_line all)) (outputs all)) in
    let named_flops = map (flop_on (names_by_line all)) (flops all) in
    ap (λ sources. record { sources = sources; gates = map (gate_on (names_by_line all)) (gates all); outputs = named_outputs; flops = named_flops })
    (sources_named c is)
    ∙ ap (λ own. record { sources = c.sources; gates = own; outputs = named_outputs; flops = named_flops }) (gates_again c is)
    ∙ ap (λ own. record { sources = c.sources; gates = c.gates; outputs = own; flops = named_flops }) (outputs_again c is)
    ∙ ap (λ own. record { sources = c.sources; gates = c.gates; outputs = c.outputs; flops = own }) (flops_again c is)

-- the names that are defined are those of all lines
defined_again : (c : Circuit) → IsCircuit c → defined_names (listed c) ≡ line_names c
defined_again c is =
    joined defined_by c (input_names c) [] (map (λ flop. name_at c flop.0.0) c.flops) (map (λ g. g.name) c.gates)
    (one_of_each defined_by Input (λ name. name) (λ _. refl) (input_names c) ∙ same_names (input_names c))
    (none_of_each defined_by (output_statement c) (λ _. refl) c.outputs)
    (one_of_each defined_by (flop_statement c) (λ flop. name_at c flop.0.0) (λ _. refl) c.flops)
    (one_of_each defined_by (gate_statement c) (λ g. g.name) (λ _. refl) c.gates)
    ∙ ap (λ own. input_names c ++ (own ++ map (λ g. g.name) c.gates)) (flop_names c is)
    ∙ sym (append_assoc (input_names c) (drop (input_count c) c.sources) (map (λ g. g.name) c.gates))
    ∙ ap (λ sources. sources ++ map (λ g. g.name) c.gates) (take-append-drop (input_count c) c.sources)

-- the names of some lines are names of lines
are_defined : (c : Circuit) (lines : List LineId) → AllByRecursion (λ line. line.0 < line_count c) lines
    → AllByRecursion (Contains (line_names c)) (names_at c lines)
are_defined c [] below = tt
are_defined c (line ∷ lines) below =
    (Contains-get_or (line_names c) line.0 [] (let within = below.0 in omega (arith, line_names-length c)), are_defined c lines below.1)

both_defined : {X : Type 0} (P : X → Type 0) (front rest : List X) → AllByRecursion P front → AllByRecursion P rest → AllByRecursion P (front ++ rest)
both_defined P [] rest before behind = behind
both_defined P (x ∷ front) rest before behind = (before.0, both_defined P front rest before.1 behind)

flop_uses : (c : Circuit) (some : List (LineId × LineId)) → AllByRecursion (λ flop. flop.1.0 < line_count c) some
    → AllByRecursion (Contains (line_names c)) (map (λ flop. name_at c flop.1.0) some)
flop_uses c [] read = tt
flop_uses c (flop ∷ some) read =
    (Contains-get_or (line_names c) flop.1.0 [] (let within = read.0 in omega (arith, line_names-length c)), flop_uses c some read.1)

gate_uses : (c : Circuit) (some : List Gate) → AllByRecursion (λ g. HasLines c g.pins) some
    → AllByRecursion (Contains (line_names c)) (flat_map used_by (map (gate_statement c) some))
gate_uses c [] read = tt
gate_uses c (gate ∷ some) read =
    both_defined (Contains (line_names c)) (names_at c gate.pins) (flat_map used_by (map (gate_statement c) some))
    (are_defined c gate.pins (recursion_from_All (λ line. line.0 < line_count c) gate.pins read.0)) (gate_uses c some read.1)

-- each name that is used is one of them
uses_again : (c : Circuit) → IsCircuit c → All (Contains (line_names c)) (used_names (listed c))
uses_again c is =
    let outs = names_at c c.outputs in
    let data_names = map (λ flop. name_at c flop.1.0) c.flops in
    let pins = flat_map used_by (gate_statements c) in
    let uses : used_names (listed c) ≡ outs ++ (data_names ++ pins) =
    joined used_by c [] outs data_names pins
    (none_of_each used_by Input (λ _. refl) (input_names c))
    (one_of_each used_by (output_statement c) (λ line. name_at c line.0) (λ _. refl) c.outputs)
    (one_of_each used_by (flop_statement c) (λ flop. name_at c flop.1.0) (λ _. refl) c.flops)
    refl in
    subst (All (Contains (line_names c))) (sym uses)
    (All-from_recursion (Contains (line_names c)) (outs ++ (data_names ++ pins))
    (both_defined (Contains (line_names c)) outs (data_names ++ pins)
    (are_defined c c.outputs (recursion_from_All (λ line. line.0 < line_count c) c.outputs is.outputs))
    (both_defined (Contains (line_names c)) data_names pins
    (flop_uses c c.flops (recursion_from_All (λ flop. flop.1.0 < line_count c) c.flops (data_lines_in_circuit c is)))
    (gate_uses c c.gates (gate_lines c is)))))

-- as many lines are defined as the circuit has
lines_counted : (c : Circuit) → IsCircuit c → length (definitions (listed c)) ≡ line_count c
lines_counted c is = length_mentions defined_by (listed c) ∙ ap length (defined_again c is) ∙ line_names-length c

-- the pins of one gate
pins_of_gate : (c : Circuit) (gate : Gate) → pins_in (gate_statement c gate) ≡ length gate.pins
pins_of_gate c gate = zero-add (length (names_at c gate.pins)) ∙ length-map gate.pins (λ line. name_at c line.0)

-- a sum of nothing
sum_of_none : {X : Type 0} (xs : List X) → sum_by (λ x. 0) xs ≡ 0
sum_of_none [] = refl
sum_of_none (x ∷ xs) = sum_by-cons (λ x. 0) x xs ∙ zero-add (sum_by (λ x. 0) xs) ∙ sum_of_none xs

-- and the gates have as many pins
pins_counted : (c : Circuit) → stated_pins (listed c) ≡ pin_total c
pins_counted c =
    let outs = output_statements c in
    let flips = flop_statements c in
    let gate = gate_statements c in
    sum_of_numbered pins_in 1 (circuit_statements c)
    ∙ sum_by-append pins_in (input_statements c) (outs ++ (flips ++ gate))
    ∙ ap (λ n. n + sum_by pins_in (outs ++ (flips ++ gate))) (sum_of_each pins_in Input (λ _. 0) (λ _. refl) (input_names c) ∙ sum_of_none (input_names c))
    ∙ zero-add (sum_by pins_in (outs ++ (flips ++ gate)))
    ∙ sum_by-append pins_in outs (flips ++ gate)
    ∙ ap (λ n. n + sum_by pins_in (flips ++ gate)) (sum_of_each pins_in (output_statement c) (λ _. 0) (λ _. refl) c.outputs ∙ sum_of_none c.outputs)
    ∙ zero-add (sum_by pins_in (flips ++ gate))
    ∙ sum_by-append pins_in flips gate
    ∙ ap (λ n. n + sum_by pins_in gate) (sum_of_each pins_in (flop_statement c) (λ _. 0) (λ _. refl) c.flops ∙ sum_of_none c.flops)
    ∙ zero-add (sum_by pins_in gate)
    ∙ sum_of_each pins_in (gate_statement c) (λ g. length g.pins) (pins_of_gate c) c.gates

-- each use means one line
named_again : (c : Circuit) → IsCircuit c → AreNamed (listed c)
named_again c is = record {
  limits = record {
    few_lines = let few = is.few_lines in omega (arith, lines_counted c is);
    few_pins = let few = is.few_pins in omega (arith, pins_counted c);
  };
  distinct = subst (AllPairs (λ a b. a ≢ b)) (sym (defined_again c is)) is.names_differ;
  defined = subst (λ (names : List (List ℕ)). All (Contains names) (used_names (listed c))) (sym (defined_again c is)) (uses_again c is);
}

-- the statements of a circuit describe it
pub describes_again : (c : Circuit) → IsCircuit c → Describes (listed c) c
describes_again c is = record {
  named = named_again c is;
  is = sym (described_again c is);
  loop_free = is.loop_free;
  few_levels = is.few_levels;
}

-- the name of a line is a name
line_name : (c : Circuit) (line : ℕ) → IsCircuit c → line < line_count c → IsName (name_at c line)
line_name c line is below = is.names line [] (omega (arith, line_names-length c))

input_lawful : (names : List (List ℕ)) → AllByRecursion IsName names → AllByRecursion IsStatement (map Input names)
input_lawful [] each = tt
input_lawful (name ∷ names) each = (each.0, input_lawful names each.1)

output_lawful : (c : Circuit) (lines : List LineId) → IsCircuit c → AllByRecursion (λ line. line.0 < line_count c) lines
    → AllByRecursion IsStatement (map (output_statement c) lines)
output_lawful c [] is below = tt
output_lawful c (line ∷ lines) is below = (line_name c line.0 is below.0, output_lawful c lines is below.1)

flop_lawful : (c : Circuit) (some : List (LineId × LineId)) → IsCircuit c → AllByRecursion (λ flop. flop.0.0 < source_count c) some
    → AllByRecursion (λ flop. flop.1.0 < line_count c) some → AllByRecursion IsStatement (map (flop_statement c) some)
flop_lawful c [] is own read = tt
flop_lawful c (flop ∷ some) is own read =
    let in_circuit : flop.0.0 < line_count c = let source = own.0 in omega arith in (
      record { own_name = line_name c flop.0.0 is in_circuit; data_name = line_name c flop.1.0 is read.0 },
      flop_lawful c some is own.1 read.1,
    )

names_lawful : (c : Circuit) (lines : List LineId) → IsCircuit c → AllByRecursion (λ line. line.0 < line_count c) lines
    → AllByRecursion IsName (names_at c lines)
names_lawful c [] is below = tt
names_lawful c (line ∷ lines) is below = (line_name c line.0 is below.0, names_lawful c lines is below.1)

-- what the circuit's gates keep, gate by gate
record IsLawfulGate (c : Circuit) (gate : Gate) : Type 0 where
  own : IsName gate.name
  fan_in : IsFanIn gate.kind (length gate.pins)
  read : HasLines c gate.pins

lawful_gates : (c : Circuit) → IsCircuit c → AllByRecursion (IsLawfulGate c) c.gates
lawful_gates c is =
    recursion_from_All (IsLawfulGate c) c.gates
    (λ gate d below. subst (IsLawfulGate c) (get_or_default c.gates gate no_gate d below) (record {
      own = subst IsName (name_of_gate c gate below) (line_name c (gate_line c gate) is (omega arith));
      fan_in = is.fan_in gate below;
      read = is.reads_lines gate below;
    }))

gate_lawful : (c : Circuit) (some : List Gate) → IsCircuit c → AllByRecursion (IsLawfulGate c) some
    → AllByRecursion IsStatement (map (gate_statement c) some)
gate_lawful c [] is each = tt
gate_lawful c (gate ∷ some) is each =
    let below = recursion_from_All (λ line. line.0 < line_count c) gate.pins each.0.read in
    let counted = sym (length-map gate.pins (λ line. name_at c line.0)) in (
      record {
        own_name = each.0.own;
        names = All-from_recursion IsName (names_at c gate.pins) (names_lawful c gate.pins is below);
        fan_in = subst (IsFanIn gate.kind) counted each.0.fan_in;
      },
      gate_lawful c some is each.1,
    )

-- the names of the inputs are names
input_names_lawful : (c : Circuit) → IsCircuit c → All IsName (input_names c)
input_names_lawful c is =
    let gate_names = map (λ g. g.name) c.gates in
    All-take IsName (input_count c) c.sources
    (λ k d below. subst IsName (get_or_append_left c.sources gate_names d k below)
    (is.names k d (omega (arith, length-append c.sources gate_names))))

-- the statements of a circuit are lawful
pub lawful_statements : (c : Circuit) → IsCircuit c → AllByRecursion IsStatement (circuit_statements c)
lawful_statements c is =
    let outs = output_statements c in
    let flips = flop_statements c in
    let own_names : AllByRecursion IsName (input_names c) = recursion_from_All IsName (input_names c) (input_names_lawful c is) in
    both_defined IsStatement (input_statements c) (outs ++ (flips ++ gate_statements c)) (input_lawful (input_names c) own_names)
    (both_defined IsStatement outs (flips ++ gate_statements c)
    (output_lawful c c.outputs is (recursion_from_All (λ line. line.0 < line_count c) c.outputs is.outputs))
    (both_defined IsStatement flips (gate_statements c)
    (flop_lawful c c.flops is (recursion_from_All (λ flop. flop.0.0 < source_count c) c.flops (flops_are_sources c is))
    (recursion_from_All (λ flop. flop.1.0 < line_count c) c.flops (data_lines_in_circuit c is)))
    (gate_lawful c c.gates is (lawful_gates c is))))
