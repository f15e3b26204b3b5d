-- Lines that a circuit names are its own, each has a name, and a gate's line has the name of the gate. Observed lines stand
-- once.
use Rattle.std.proofs.Common.{◌≡◌, ◌≢◌, ℕ, ◌+◌, ◌-◌, ◌<◌, true, true≢false, List, [], ◌∷◌, ◌++◌, length, get_or, map, filter, not, eqb, sym, ap, subst, ◌∙◌, arith}
use Rattle.std.specs.List.{All, AllPairs}
use Rattle.std.proofs.lemmas.Bool.{eq-eqb, not-true}
use Rattle.std.proofs.lemmas.List.{get_or-append-add, get_or-map, length-map, length-append}
use Rattle.std.proofs.lemmas.List.FromFn.{get_or-range_with_len}
use Rattle.std.proofs.lemmas.List.Elements.{All-cons, All-head, All-tail, All-append, All-filter, filter_passes}
use Rattle.std.proofs.lemmas.List.Kept.{AllPairs-cons, AllPairs-filter}
use Rattle.pd_base.specs.declared.ids.LineId.{LineId}
use Rattle.netlist.specs.Circuit.{Circuit, HasLines, data_lines, distinct_lines, gate_at, gate_count, gate_line, line_count, line_names, no_gate, observed_lines, source_count}
use Rattle.netlist.specs.Names.{name_at}
use Rattle.netlist.specs.Lawful.{IsCircuit}

-- there are as many names as lines
pub line_names-length : (c : Circuit) → length (line_names c) ≡ line_count c
line_names-length c =
    length-append c.sources (map (λ g. g.name) c.gates)
    ∙ ap (λ n. length c.sources + n) (length-map c.gates (λ g. g.name))

-- a gate's line has the gate's name
pub name_of_gate : (c : Circuit) (gate : ℕ) → gate < gate_count c → name_at c (gate_line c gate) ≡ (gate_at c gate).name
name_of_gate c gate within =
    get_or-append-add c.sources (map (λ g. g.name) c.gates) gate []
    ∙ get_or-map (λ g. g.name) c.gates gate no_gate [] within

-- what holds of each line holds of each when repeated lines are dropped
pub each_distinct : (P : LineId → Type 0) (lines : List LineId) → All P lines → All P (distinct_lines lines)
each_distinct P [] all = all
each_distinct P (line ∷ lines) all =
    let IsOther = λ (other : LineId). not (eqb other.0 line.0) in
    All-cons P line (filter IsOther (distinct_lines lines)) (All-head P line lines all)
    (All-filter IsOther P (distinct_lines lines) (each_distinct P lines (All-tail P line lines all)))

-- each flip-flop's own line is a source
pub flops_are_sources : (c : Circuit) → IsCircuit c → All (λ flop. flop.0.0 < source_count c) c.flops
flops_are_sources c circuit at d within =
    let first = source_count c - length c.flops in
    let own : (get_or c.flops at d).0.0 ≡ first + at =
    sym (get_or-map (λ flop. flop.0.0) c.flops at d 0 within)
    ∙ ap (λ numbers. get_or numbers at 0) circuit.flops ∙ get_or-range_with_len first (length c.flops) at 0 within in
    omega (arith, own, circuit.flops_fit)

-- and its data line is one of the circuit
pub data_lines_in_circuit : (c : Circuit) → IsCircuit c → All (λ flop. flop.1.0 < line_count c) c.flops
data_lines_in_circuit c circuit at d within =
    let own = get_or-map (λ (flop : LineId × LineId). flop.1) c.flops at d d.1 within in
    let long = length-map c.flops (λ (flop : LineId × LineId). flop.1) in
    subst (λ (line : LineId). line.0 < line_count c) own (circuit.data_lines at d.1 (omega arith))

-- so are the observed lines
pub observed_in_circuit : (c : Circuit) → IsCircuit c → HasLines c (observed_lines c)
observed_in_circuit c circuit =
    let IsLine : LineId → Type 0 = λ line. line.0 < line_count c in
    each_distinct IsLine (c.outputs ++ data_lines c)
    (All-append IsLine c.outputs (data_lines c) circuit.outputs circuit.data_lines)

-- a line that passes the test of being another than this one is
is_other : (line other : LineId) → not (eqb other.0 line.0) ≡ true → line ≢ other
is_other line other passes same =
    let equal = eq-eqb other.0 line.0 (ap (λ (l : LineId). l.0) (sym same)) in
    true≢false (sym equal ∙ not-true (eqb other.0 line.0) passes)

-- when repeated lines are dropped each line stands once
pub distinct_lines-once : (lines : List LineId) → AllPairs (λ a b. a ≢ b) (distinct_lines lines)
distinct_lines-once [] = λ i j d before within. absurd (omega arith)
distinct_lines-once (line ∷ lines) =
    let IsOther = λ (other : LineId). not (eqb other.0 line.0) in
    let rest = distinct_lines lines in
    AllPairs-cons (λ a b. a ≢ b) line (filter IsOther rest)
    (λ k d within. is_other line (get_or (filter IsOther rest) k d) (filter_passes IsOther rest k d within))
    (AllPairs-filter (λ a b. a ≢ b) IsOther rest (distinct_lines-once lines))

-- each observed line stands once
pub observed_once : (c : Circuit) → AllPairs (λ a b. a ≢ b) (observed_lines c)
observed_once c = distinct_lines-once (c.outputs ++ data_lines c)
