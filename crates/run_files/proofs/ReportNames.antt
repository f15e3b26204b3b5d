-- The names of a circuit: each is that of one line, and no comma, space or LF is in it.
use Rattle.std.proofs.Common.{◌≡◌, ◌≢◌, ◌⊎◌, ⊎_elim, ◌<◌, ◌≤◌, ℕ, false, length, get_or, Contains, ne_eqb, sym, ap, subst, ◌∙◌, ◌==◌, arith}
use Rattle.std.proofs.lemmas.Bool.{cases_order}
use Rattle.std.proofs.lemmas.List.Elements.{Contains-get_or, recursion_from_All}
use Rattle.pd_base.specs.declared.ids.GateId.{GateId}
use Rattle.netlist.specs.Circuit.{Circuit, gate_count, gate_line, line_count, line_names, source_count}
use Rattle.netlist.specs.Lawful.{IsCircuit}
use Rattle.netlist.specs.Names.{name_at, IsNameByte}
use Rattle.netlist.proofs.CircuitLines.{line_names-length, name_of_gate}
use Rattle.text_pieces.specs.Cuts.{Lacks}
use Rattle.run_files.specs.ReportReading.{gate_name}

-- the name of a source is that of a line
pub has_source_name : (c : Circuit) (source : ℕ) → source < source_count c → Contains (line_names c) (name_at c source)
has_source_name c source within = Contains-get_or (line_names c) source _ (omega (arith, within, line_names-length c))

module _ (c : Circuit) (is : IsCircuit c) where
  pub lines_apart : (i j : ℕ) → i < line_count c → j < line_count c → name_at c i ≡ name_at c j → i ≡ j
  lines_apart i j in_i in_j same =
      ⊎_elim (λ one. one)
      (λ apart. ⊎_elim
      (λ before. absurd (is.names_differ i j _ before (omega (arith, in_j, line_names-length c)) same))
      (λ behind. absurd (is.names_differ j i _ behind (omega (arith, in_i, line_names-length c)) (sym same))) apart)
      (cases_order i j)

  -- a gate has the name of its line
  pub gates_apart : (a b : GateId) → a.0 < gate_count c → b.0 < gate_count c → gate_name c a ≡ gate_name c b → a ≡ b
  gates_apart a b in_a in_b same =
      let lines = lines_apart (gate_line c a.0) (gate_line c b.0) (omega arith) (omega arith)
      (name_of_gate c a.0 in_a ∙ same ∙ sym (name_of_gate c b.0 in_b)) in
      let one : a.0 ≡ b.0 = omega (arith, lines) in
      ap (λ (n : ℕ). record { 0 = n }) one

  pub has_gate_name : (gate : GateId) → gate.0 < gate_count c → Contains (line_names c) (gate_name c gate)
  has_gate_name gate within =
      subst (Contains (line_names c)) (name_of_gate c gate.0 within)
      (Contains-get_or (line_names c) (gate_line c gate.0) _ (omega (arith, within, line_names-length c)))

  -- a byte up to the space, or the comma, is in no name
  pub name_lacks : (byte : ℕ) → (byte ≤ 32) ⊎ (byte ≡ 44) → (line : ℕ) → line < line_count c → Lacks byte (name_at c line)
  name_lacks byte small line within =
      recursion_from_All (λ other. (other == byte) ≡ false) (name_at c line)
      (λ k d inside. ne_eqb (get_or (name_at c line) k d) byte (none k d inside))
    where
      at : (k d : ℕ) → k < length (name_at c line) → IsNameByte (get_or (name_at c line) k d)
      at k d inside = (is.names line _ (omega (arith, within, line_names-length c))).bytes k d inside

      none : (k d : ℕ) → k < length (name_at c line) → get_or (name_at c line) k d ≢ byte
      none k d inside same =
          ⊎_elim (λ low. omega (arith, (at k d inside).above_space)) (λ comma. (at k d inside).no_comma (same ∙ comma)) small
