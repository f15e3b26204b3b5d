-- Flip-flops are the last sources, and each has a name of its own, which has no LF.
use Rattle.std.proofs.Common.{◌≡◌, ◌≢◌, ⊎_elim, ◌==◌, ◌+◌, ◌-◌, ◌<◌, ◌≤◌, ℕ, false, List, [], length, get_or, map, Contains, ne_eqb, sym, ap, ◌∙◌, arith}
use Rattle.std.proofs.lemmas.Bool.{cases_order}
use Rattle.std.proofs.lemmas.List.{get_or-map, length-map}
use Rattle.std.proofs.lemmas.List.FromFn.{get_or-range_with_len}
use Rattle.std.proofs.lemmas.List.Elements.{Contains-get_or, recursion_from_All}
use Rattle.pd_base.specs.declared.ids.LineId.{LineId}
use Rattle.netlist.specs.Circuit.{Circuit, line_count, line_names, source_count}
use Rattle.netlist.specs.Lawful.{IsCircuit}
use Rattle.netlist.specs.Names.{name_at, IsName}
use Rattle.netlist.proofs.CircuitLines.{line_names-length}
use Rattle.text_pieces.specs.Cuts.{Lacks}
use Rattle.text_pieces.specs.Tokens.{line_feed}
use Rattle.scan_order.specs.Chains.{IsFlop, flop_lines}

module _ (c : Circuit) (is : IsCircuit c) where
  -- the number of the flip-flop at a place
  flop_number : (at : ℕ) (d : LineId) → at < length (flop_lines c) → (get_or (flop_lines c) at d).0 ≡ (source_count c - length c.flops) + at
  flop_number at d within =
      let long : length (flop_lines c) ≡ length c.flops = length-map c.flops (λ (flop : LineId × LineId). flop.0) in
      let own : get_or (flop_lines c) at d ≡ (get_or c.flops at (d, d)).0 =
      get_or-map (λ (flop : LineId × LineId). flop.0) c.flops at (d, d) d (omega arith) in
      let number : get_or (map (λ (flop : LineId × LineId). flop.0.0) c.flops) at 0 ≡ (get_or c.flops at (d, d)).0.0 =
      get_or-map (λ (flop : LineId × LineId). flop.0.0) c.flops at (d, d) 0 (omega arith) in
      ap (λ (l : LineId). l.0) own ∙ sym number ∙ ap (λ (numbers : List ℕ). get_or numbers at 0) is.flops
      ∙ get_or-range_with_len (source_count c - length c.flops) (length c.flops) at 0 (omega arith)

  -- a flip-flop is one of the last sources
  pub flop_is_late : (flop : LineId) → IsFlop c flop → (source_count c - length c.flops ≤ flop.0) × (flop.0 < source_count c)
  flop_is_late flop (at, within, found) =
      let long : length (flop_lines c) ≡ length c.flops = length-map c.flops (λ (pair : LineId × LineId). pair.0) in
      let number = flop_number at flop within in
      let same : (get_or (flop_lines c) at flop).0 ≡ flop.0 = ap (λ (l : LineId). l.0) found in
      let fit = is.flops_fit in
      (omega arith, omega arith)

  -- and each of the last sources is one
  pub late_is_flop : (line : LineId) → source_count c - length c.flops ≤ line.0 → line.0 < source_count c → IsFlop c line
  late_is_flop line late source =
      let long : length (flop_lines c) ≡ length c.flops = length-map c.flops (λ (flop : LineId × LineId). flop.0) in
      let fit = is.flops_fit in
      let at : ℕ = line.0 - (source_count c - length c.flops) in
      let within : line.0 - (source_count c - length c.flops) < length (flop_lines c) = omega arith in
      let number = flop_number (line.0 - (source_count c - length c.flops)) line within in
      let same : (get_or (flop_lines c) (line.0 - (source_count c - length c.flops)) line).0 ≡ line.0 = omega (arith, number) in
      (line.0 - (source_count c - length c.flops), within, ap (λ (n : ℕ). record { 0 = n }) same)

  pub flop_in_circuit : (flop : LineId) → IsFlop c flop → flop.0 < line_count c
  flop_in_circuit flop is_flop = omega (arith, (flop_is_late flop is_flop).1)

  -- a line has its name for itself
  pub line_of_name : (a b : LineId) → a.0 < line_count c → b.0 < line_count c → name_at c a.0 ≡ name_at c b.0 → a ≡ b
  line_of_name a b in_a in_b same =
      let one : a.0 ≡ b.0 =
      ⊎_elim (λ one. one)
      (λ apart. ⊎_elim
      (λ before. absurd (is.names_differ a.0 b.0 _ before (omega (arith, in_b, line_names-length c)) same))
      (λ behind. absurd (is.names_differ b.0 a.0 _ behind (omega (arith, in_a, line_names-length c)) (sym same))) apart)
      (cases_order a.0 b.0) in
      ap (λ (n : ℕ). record { 0 = n }) one

  -- what no line is named, no flip-flop is
  pub is_name : (flop : LineId) → IsFlop c flop → Contains (line_names c) (name_at c flop.0)
  is_name flop is_flop = Contains-get_or (line_names c) flop.0 [] (omega (arith, flop_in_circuit flop is_flop, line_names-length c))

  flop_has_name : (flop : LineId) → IsFlop c flop → IsName (name_at c flop.0)
  flop_has_name flop is_flop = is.names flop.0 [] (omega (arith, flop_in_circuit flop is_flop, line_names-length c))

  pub name_is_some : (flop : LineId) → IsFlop c flop → name_at c flop.0 ≢ []
  name_is_some flop is_flop none = omega (arith, (flop_has_name flop is_flop).some_byte, ap length none)

  pub name_is_one_line : (flop : LineId) → IsFlop c flop → Lacks line_feed (name_at c flop.0)
  name_is_one_line flop is_flop =
      recursion_from_All (λ other. (other == line_feed) ≡ false) (name_at c flop.0) (λ k d inside. ne_eqb (get_or (name_at c flop.0) k d) line_feed (none k d inside))
    where
      none : (k d : ℕ) → k < length (name_at c flop.0) → get_or (name_at c flop.0) k d ≢ line_feed
      none k d inside same = omega (arith, same, ((flop_has_name flop is_flop).bytes k d inside).above_space)
