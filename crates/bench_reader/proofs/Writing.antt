-- The line of a gate, as it is written piece by piece.
use Rattle.std.proofs.Common.{◌≡◌, ℕ, ◌<◌, List, [], ◌++◌, map, codes, ap, ◌∙◌, append_assoc}
use Rattle.std.proofs.lemmas.List.{get_or-append-add, get_or-map}
use Rattle.netlist.specs.declared.kind.GateKind.{GateKind}
use Rattle.netlist.specs.Circuit.{Circuit, gate_at, gate_count, gate_line, no_gate}
use Rattle.netlist.specs.Names.{name_at}
use Rattle.bench_reader.specs.Canonical.{arguments_text, with_line_end, gate_head, gate_statement, names_at, statement_text}

-- the line of a gate bears its name
gate_name : (c : Circuit) (gate : ℕ) → gate < gate_count c → name_at c (gate_line c gate) ≡ (gate_at c gate).name
gate_name c gate below =
    get_or-append-add c.sources (map (λ g. g.name) c.gates) gate []
    ∙ get_or-map (λ g. g.name) c.gates gate no_gate [] below

-- three pieces and the end of a line, one behind another
joined : (start head pins : List ℕ) → ((start ++ head) ++ pins) ++ codes ")\n" ≡ start ++ with_line_end (head ++ pins ++ codes ")")
joined start head pins = simp append_assoc

-- the head of the line, its arguments and its end
pub gate_written : (c : Circuit) (gate : ℕ) (start name head text arguments : List ℕ) (kind : GateKind) → gate < gate_count c
    → name ≡ name_at c (gate_line c gate) → kind ≡ (gate_at c gate).kind → head ≡ start ++ gate_head name kind
    → arguments ≡ head ++ arguments_text (names_at c (gate_at c gate).pins) → text ≡ arguments ++ codes ")\n"
    → text ≡ start ++ with_line_end (statement_text (gate_statement c (gate_at c gate)))
gate_written c gate start name head text arguments kind below names kinds heads more ends =
    let pins = arguments_text (names_at c (gate_at c gate).pins) in
    let own_name = names ∙ gate_name c gate below in
    let whole_head = heads ∙ ap (λ own. start ++ gate_head own kind) own_name ∙ ap (λ own. start ++ gate_head (gate_at c gate).name own) kinds in
    ends ∙ ap (λ front. front ++ codes ")\n") (more ∙ ap (λ front. front ++ pins) whole_head)
    ∙ joined start (gate_head (gate_at c gate).name (gate_at c gate).kind) pins
