-- One pass over the gates in rank order, each of which writes its own line: after it each line has its value. What is read
-- at a line is a function of the line here, whatever it is kept in.
use Rattle.std.proofs.Common.{◌≡◌, ◌≢◌, ⊎_elim, ℕ, ◌⊎◌, ◌+◌, ◌-◌, ◌<◌, ◌≤◌, List, [], map, take, take_all, length, get_or, set, get_or-set_same, get_or-set_other, sym, ap, subst, ◌∙◌, arith}
use Rattle.std.specs.List.{All, Contains}
use Rattle.std.proofs.lemmas.List.{take_more}
use Rattle.std.proofs.lemmas.List.Elements.{Contains-push_cases}
use Rattle.std.proofs.lemmas.Bool.{cases_lt, cases_eq}
use Rattle.std.proofs.lemmas.Option.{slice_get-get_or}
use Rattle.pd_base.specs.declared.ids.GateId.{GateId}
use Rattle.netlist.specs.Circuit.{Circuit, source_count, gate_count, line_count, gate_line, pins_at}
use Rattle.netlist.specs.Lawful.{IsCircuit}
use Rattle.netlist.specs.Levels.{IsRankOrder, IsDriven, ReadsEarlier}
use Rattle.netlist.specs.Levels.IsDriven.{by_source, by_gate}
use Rattle.netlist.specs.Evaluation.{value_of}
use Rattle.netlist.proofs.Evaluation.{map_agree, gate_line_of, value_at_source, value_at_gate}

module _ {V : Type 0} (c : Circuit) (base : ℕ → V) (step : ℕ → List V → V) where
  -- at each source, and at the line of each of these gates, the line's value is read
  pub record HasValues (gates : List GateId) (read : ℕ → V) : Type 0 where
    pub each : (line : ℕ) → IsDriven c gates line → read line ≡ value_of c base step line

  -- it is before the first gate where each source has its base
  pub begun : (read : ℕ → V) → ((source : ℕ) → source < source_count c → read source ≡ base source) → HasValues [] read
  begun read bases = record { each = at_line }
    where
      at_line : (line : ℕ) → IsDriven c [] line → read line ≡ value_of c base step line
      at_line line (by_source source) = bases line source ∙ sym (value_at_source c base step line source)
      at_line line (by_gate gate (place, within, at) own) = absurd (omega arith)

  -- after the last gate each line's value is read
  pub all_read : (order : List GateId) → IsRankOrder c order → (place : ℕ) → length order ≤ place → (read : ℕ → V)
      → HasValues (take place order) read → (line : ℕ) → line < line_count c → read line ≡ value_of c base step line
  all_read order ranked place last read has line within =
      ⊎_elim (λ source. has.each line (by_source source)) of_gate (cases_lt line (source_count c))
    where
      of_gate : source_count c ≤ line → read line ≡ value_of c base step line
      of_gate above =
          let gate = line - source_count c in
          let found : Contains order (record { 0 = gate }) = ranked.whole gate (omega arith) in
          let among = subst (λ gates. Contains gates (record { 0 = gate })) (sym (take_all place order last)) found in
          has.each line (by_gate gate among (sym (gate_line_of c line above)))

  module _ (is : IsCircuit c) (order : List GateId) (ranked : IsRankOrder c order) (earlier : ReadsEarlier c order)
      (place : ℕ) (inside : place < length order) where
    -- the next gate
    abbrev gate : GateId
    gate = get_or order place (record { 0 = 0 })

    -- its line
    abbrev own_line : ℕ
    own_line = gate_line c gate.0

    module _ (read : ℕ → V) (has : HasValues (take place order) read) where
      -- at each of its pins the line's value is read
      at_pins : All (λ pin. read pin.0 ≡ value_of c base step pin.0) (pins_at c gate.0)
      at_pins k d within =
          has.each (get_or (pins_at c gate.0) k d).0
          (earlier place gate (slice_get-get_or order place (record { 0 = 0 }) inside) k d within)

      -- so the step on what is read there gives the value of the gate's line
      pub own_value : step gate.0 (map (λ pin. read pin.0) (pins_at c gate.0)) ≡ value_of c base step own_line
      own_value =
          ap (step gate.0)
          (map_agree (λ pin. read pin.0) (λ pin. value_of c base step pin.0) (pins_at c gate.0) at_pins)
          ∙ sym (value_at_gate c base step is.reads_lines is.loop_free gate.0
          (ranked.in_circuit place (record { 0 = 0 }) inside))

      module _ (new : ℕ → V) (own : new own_line ≡ step gate.0 (map (λ pin. read pin.0) (pins_at c gate.0)))
          (others : (line : ℕ) → line ≢ own_line → new line ≡ read line) where
        -- at the line of a gate that is among the first ones, or is the next one, the value is read anew
        at_gate : (line other : ℕ) → line ≡ gate_line c other
            → Contains (take place order) (record { 0 = other }) ⊎ (gate ≡ record { 0 = other })
            → new line ≡ value_of c base step line
        at_gate line other its among =
            ⊎_elim
            (λ same. subst (λ line. new line ≡ value_of c base step line) (sym same) (own ∙ own_value))
            (λ differs. others line differs ∙ ⊎_elim
            (λ before. has.each line (by_gate other before its))
            (λ this. absurd (differs (its ∙ ap (λ (g : GateId). gate_line c g.0) (sym this))))
            among)
            (cases_eq line own_line)

        -- at each line of a source or of one of these gates it is
        at_line : (line : ℕ) → IsDriven c (take (place + 1) order) line → new line ≡ value_of c base step line
        at_line line (by_source source) =
            let other : line ≢ own_line = omega arith in
            others line other ∙ has.each line (by_source source)
        at_line line (by_gate other among its) =
            let split = subst (λ gates. Contains gates (record { 0 = other }))
            (take_more order place (record { 0 = 0 }) inside) among in
            at_gate line other its (Contains-push_cases (take place order) gate (record { 0 = other }) split)

        -- the next gate sets its own line alone, to its step on what is read at its pins: then it has its value too
        pub one_more : HasValues (take (place + 1) order) new
        one_more = record { each = at_line }

    -- the same where a list holds what is read, and its place for the gate's line is set
    pub one_set : {W : Type 0} (show : W → V) (none : W) (out : List W) (line : ℕ) (found : W)
        → line ≡ own_line → line_count c ≤ length out
        → show found ≡ step gate.0 (map (λ pin. show (get_or out pin.0 none)) (pins_at c gate.0))
        → HasValues (take place order) (λ line. show (get_or out line none))
        → HasValues (take (place + 1) order) (λ other. show (get_or (set out line found) other none))
    one_set show none out line found same long shows has =
        one_more (λ line. show (get_or out line none)) has (λ other. show (get_or (set out line found) other none))
        (ap show (ap (λ at. get_or (set out line found) at none) (sym same) ∙ get_or-set_same out line found none within) ∙ shows)
        (λ other differs. ap show (get_or-set_other out line other found none (λ e. differs (e ∙ same))))
      where
        within : line < length out
        within =
            let in_circuit : gate.0 < gate_count c = ranked.in_circuit place (record { 0 = 0 }) inside in
            omega arith
