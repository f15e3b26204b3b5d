-- In rank order each gate stands behind the gates whose lines it reads, since its level is above theirs.
use Rattle.std.proofs.Common.{◌≡◌, ⊎_elim, ℕ, zero, suc, ◌+◌, ◌-◌, ◌<◌, ◌≤◌, List, [], ◌∷◌, map, take, length, get_or, slice_get, Some, refl, sym, ap, subst, ◌∙◌, arith}
use Rattle.std.proofs.lemmas.Bool.{cases_lt}
use Rattle.std.proofs.lemmas.List.{get_or-take, length-take-le}
use Rattle.std.proofs.lemmas.Option.{get_or_from_slice_get, slice_get_within, slice_get_read}
use Rattle.pd_base.specs.declared.ids.LineId.{LineId}
use Rattle.pd_base.specs.declared.ids.GateId.{GateId}
use Rattle.netlist.specs.Circuit.{Circuit, source_count, gate_count, line_count, gate_line, pins_at}
use Rattle.netlist.specs.Greatest.{greatest}
use Rattle.netlist.specs.Levels.{level, IsRankedBefore, IsRankOrder, IsDriven, ReadsEarlier}
use Rattle.netlist.specs.Levels.IsRankedBefore.{lower_level, lesser_number}
use Rattle.netlist.specs.Levels.IsDriven.{by_source, by_gate}
use Rattle.netlist.specs.Lawful.{IsCircuit}
use Rattle.netlist.proofs.Evaluation.{all_at_place, all_from_places, gate_line_of, value_at_gate}

-- no number is above the greatest
pub below_greatest : {X : Type 0} (f : X → ℕ) (xs : List X) (i : ℕ) (x : X) → slice_get xs i ≡ Some x
    → f x ≤ greatest (map f xs)
below_greatest f [] i x at = absurd cc
below_greatest f (y ∷ xs) zero x at = let same : y ≡ x = cc in omega (arith, ap f same)
below_greatest f (y ∷ xs) (suc i) x at = omega (arith, below_greatest f xs i x at)

module _ (c : Circuit) (circuit : IsCircuit c) where
  -- a gate stands on a higher level than each line that it reads
  pub reads_lower : (gate pin : ℕ) (line : LineId) → gate < gate_count c → slice_get (pins_at c gate) pin ≡ Some line
      → level c line.0 < level c (gate_line c gate)
  reads_lower gate pin line within at =
      let here : level c (gate_line c gate) ≡ 1 + greatest (map (λ pin. level c pin.0) (pins_at c gate)) =
      value_at_gate c (λ source. 0) (λ gate levels. 1 + greatest levels)
      circuit.reads_lines circuit.loop_free gate within in
      omega (arith, here, below_greatest (λ (l : LineId). level c l.0) (pins_at c gate) pin line at)

  -- a gate that is ranked before another stands on no higher level
  no_higher : (a b : GateId) → IsRankedBefore c a b → level c (gate_line c a.0) ≤ level c (gate_line c b.0)
  no_higher a b (lower_level below) = omega arith
  no_higher a b (lesser_number same less) = omega arith

  module _ (order : List GateId) (ranked : IsRankOrder c order) where
    -- a gate on a lower level stands before one on a higher level
    stands_before : (place before : ℕ) (gate other : GateId) → slice_get order place ≡ Some gate
        → slice_get order before ≡ Some other → level c (gate_line c other.0) < level c (gate_line c gate.0)
        → before < place
    stands_before place before gate other at_place at_before below =
        ⊎_elim (λ earlier. earlier) (λ later. absurd (never later)) (cases_lt before place)
      where
        here : get_or order place gate ≡ gate
        here = get_or_from_slice_get order place gate gate at_place

        there : get_or order before gate ≡ other
        there = get_or_from_slice_get order before other gate at_before

        same_place : place ≡ before → ⊥
        same_place same =
            let one : gate ≡ other = sym here ∙ ap (λ k. get_or order k gate) same ∙ there in
            omega (arith, ap (λ (g : GateId). level c (gate_line c g.0)) one)

        after : place < before → ⊥
        after later =
            let within = slice_get_within order before other at_before in
            let rises = ranked.rising place before gate later within in
            let level_of = λ (g : GateId). level c (gate_line c g.0) in
            omega (
              arith,
              no_higher (get_or order place gate) (get_or order before gate) rises,
              ap level_of here,
              ap level_of there,
            )

        never : place ≤ before → ⊥
        never later = ⊎_elim after (λ back. same_place (omega arith)) (cases_lt place before)

    -- a line that a gate's pin reads is a source's, or that of a gate that stands before
    driven : (place pin : ℕ) (gate : GateId) (line : LineId) → slice_get order place ≡ Some gate
        → gate.0 < gate_count c → slice_get (pins_at c gate.0) pin ≡ Some line → IsDriven c (take place order) line.0
    driven place pin gate line at within reads =
        ⊎_elim (λ source. by_source source) of_gate (cases_lt line.0 (source_count c))
      where
        of_gate : source_count c ≤ line.0 → IsDriven c (take place order) line.0
        of_gate above =
            let read = line.0 - source_count c in
            let inside = all_at_place (λ (l : LineId). l.0 < line_count c) (pins_at c gate.0) pin line
            (circuit.reads_lines gate.0 within) reads in
            let own = gate_line_of c line.0 above in
            let found = ranked.whole read (omega arith) in
            let other : GateId = record { 0 = read } in
            let there = slice_get_read order (length order) found.0 other refl found.1 (sym found.2) in
            let below = subst (λ n. level c n < level c (gate_line c gate.0)) (sym own)
            (reads_lower gate.0 pin line within reads) in
            let before = stands_before place found.0 gate other at there below in
            let long = length-take-le place order (omega (arith, slice_get_within order place gate at)) in
            by_gate read (found.0, omega arith, get_or-take place order found.0 other before ∙ found.2) (sym own)

    -- so the order reads only what stands earlier in it
    pub reads_earlier : ReadsEarlier c order
    reads_earlier place gate at =
        let within = all_at_place (λ (g : GateId). g.0 < gate_count c) order place gate ranked.in_circuit at in
        all_from_places (λ (line : LineId). IsDriven c (take place order) line.0) (pins_at c gate.0)
        (λ pin line reads. driven place pin gate line at within reads)
