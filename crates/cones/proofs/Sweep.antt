-- One pass over the gates against rank order, in which each marked gate marks the lines of its pins: after it the marked
-- lines are those in the transitive fan-in of the end that was marked first.
use Rattle.std.proofs.Common.{◌≡◌, ⊎_elim, inl, inr, ℕ, ◌-◌, ◌<◌, ◌≤◌, Bool, true, false, List, Some, take, length, get_or, set, replicate, IsTrue, Contains, sym, ap, subst, ◌∙◌, arith}
use Rattle.std.specs.List.{All}
use Rattle.std.proofs.lemmas.List.{get_or-take, get_or_default, length-take-le, length-replicate}
use Rattle.std.proofs.lemmas.List.Elements.{Contains-get_or}
use Rattle.std.proofs.lemmas.Bool.{cases_lt, false≢true}
use Rattle.std.proofs.lemmas.Option.{slice_get-get_or}
use Rattle.pd_base.specs.declared.ids.LineId.{LineId}
use Rattle.pd_base.specs.declared.ids.GateId.{GateId}
use Rattle.netlist.specs.Circuit.{Circuit, gate_line, pins_at}
use Rattle.netlist.specs.Levels.{level, IsRankedBefore, IsRankOrder, IsDriven, ReadsEarlier}
use Rattle.netlist.specs.Levels.IsRankedBefore.{lower_level, lesser_number}
use Rattle.netlist.specs.Levels.IsDriven.{by_source, by_gate}
use Rattle.netlist.specs.Pins.{IsInFanIn}
use Rattle.netlist.specs.Pins.IsInFanIn.{end_itself, read_by_pin}
use Rattle.netlist.proofs.Evaluation.{all_at_place}
use Rattle.cones.specs.Marks.{is_marked, AddsMarks}
use Rattle.cones.proofs.Marking.{set_marks, set_alone, none_marked}

module _ (c : Circuit) (end : ℕ) (order : List GateId) where
  -- the gate at this place of the order
  abbrev gate_in : ℕ → ℕ
  gate_in place = (get_or order place (record { 0 = 0 })).0

  -- The end is marked, and only lines in its transitive fan-in are. Each marked gate from this place on has the lines of its
  -- pins marked.
  pub record IsSwept (place : ℕ) (marks : List Bool) : Type 0 where
    pub sound : (line : ℕ) → IsTrue (is_marked marks line) → IsInFanIn c end line
    pub end_marked : IsTrue (is_marked marks end)
    pub closed : (k : ℕ) → place ≤ k → k < length order → IsTrue (is_marked marks (gate_line c (gate_in k)))
        → All (λ line. IsTrue (is_marked marks line.0)) (pins_at c (gate_in k))

  -- so it is before the first turn, where the end alone is marked
  pub begun : (count : ℕ) → end < count → IsSwept (length order) (set (replicate count false) end true)
  begun count within = record {
    sound = λ line is. ⊎_elim (λ was. absurd (none_marked count line was))
        (λ same. subst (IsInFanIn c end) (sym same) end_itself)
        (set_alone (replicate count false) end line is);
    end_marked = set_marks (replicate count false) end (omega (arith, length-replicate count false));
    closed = λ k past inside. absurd (omega arith);
  }

  -- a gate that is not marked is passed over
  pub passed : (place : ℕ) (marks : List Bool) → 0 < place → is_marked marks (gate_line c (gate_in (place - 1))) ≡ false
      → IsSwept place marks → IsSwept (place - 1) marks
  passed place marks some unmarked swept = record {
    sound = swept.sound;
    end_marked = swept.end_marked;
    closed = closed;
  }
    where
      closed : (k : ℕ) → place - 1 ≤ k → k < length order → IsTrue (is_marked marks (gate_line c (gate_in k)))
          → All (λ line. IsTrue (is_marked marks line.0)) (pins_at c (gate_in k))
      closed k from inside is =
          ⊎_elim
          (λ here. let at : k ≡ place - 1 = omega arith in
          absurd (false≢true (sym unmarked ∙ ap (λ j. is_marked marks (gate_line c (gate_in j))) (sym at) ∙ is)))
          (λ later. swept.closed k later inside is)
          (cases_lt k place)

  module _ (ranked : IsRankOrder c order) where
    -- no gate is ranked before itself
    never_before : (a b : GateId) → a.0 ≡ b.0 → IsRankedBefore c a b → ⊥
    never_before a b same (lower_level below) = omega (arith, ap (λ n. level c (gate_line c n)) same)
    never_before a b same (lesser_number even less) = omega arith

    -- no gate stands a second time, further on
    stands_once : (gate : GateId) (before k : ℕ) → get_or order before gate ≡ gate → before < k → k < length order
        → gate_in k ≡ gate.0 → ⊥
    stands_once gate before k at less inside same =
        never_before (get_or order before gate) (get_or order k gate)
        (ap (λ (g : GateId). g.0) at ∙ sym same ∙ ap (λ (g : GateId). g.0) (get_or_default order k (record { 0 = 0 }) gate inside))
        (ranked.rising before k gate less inside)

    -- so no gate from a place on is among those before it
    not_driven : (place k : ℕ) → place ≤ k → k < length order → IsDriven c (take place order) (gate_line c (gate_in k)) → ⊥
    not_driven place k from inside (by_source source) = omega arith
    not_driven place k from inside (by_gate gate (before, within, at) own) =
        let long = length-take-le place order (omega arith) in
        let less : before < place = omega arith in
        stands_once (record { 0 = gate }) before k
        (sym (get_or-take place order before (record { 0 = gate }) less) ∙ at) (omega arith) inside (omega arith)

    -- after the last turn all that is in the transitive fan-in is marked
    pub complete : (marks : List Bool) → IsSwept 0 marks → (line : ℕ) → IsInFanIn c end line → IsTrue (is_marked marks line)
    complete marks swept _ end_itself = swept.end_marked
    complete marks swept _ (read_by_pin pin line on further) =
        let gate : GateId = pin.gate in
        let found : Contains order (record { 0 = gate.0 }) = ranked.whole gate.0 on.in_circuit in
        let at : gate_in found.0 ≡ gate.0 =
        ap (λ (g : GateId). g.0) (get_or_default order found.0 (record { 0 = 0 }) (record { 0 = gate.0 }) found.1 ∙ found.2) in
        let owner = subst (λ g. IsTrue (is_marked marks (gate_line c g))) (sym at) (complete marks swept _ further) in
        let all = subst (λ g. All (λ (l : LineId). IsTrue (is_marked marks l.0)) (pins_at c g)) at
        (swept.closed found.0 (omega arith) found.1 owner) in
        all_at_place (λ (l : LineId). IsTrue (is_marked marks l.0)) (pins_at c gate.0) pin.pin (record { 0 = line }) all on.reads

    module _ (earlier : ReadsEarlier c order) (place : ℕ) (some : 0 < place) (inside : place ≤ length order)
        (marks new : List Bool) (is : IsTrue (is_marked marks (gate_line c (gate_in (place - 1)))))
        (adds : AddsMarks marks (pins_at c (gate_in (place - 1))) new) (swept : IsSwept place marks) where
      -- the gate whose turn it is
      abbrev gate : ℕ
      gate = gate_in (place - 1)

      -- what was marked stays so
      kept : (line : ℕ) → IsTrue (is_marked marks line) → IsTrue (is_marked new line)
      kept line was = (adds line).1 (inl was)

      -- its pins read only lines in the transitive fan-in
      sound : (line : ℕ) → IsTrue (is_marked new line) → IsInFanIn c end line
      sound line now = ⊎_elim (swept.sound line) read ((adds line).0 now)
        where
          read : Contains (pins_at c gate) (record { 0 = line }) → IsInFanIn c end line
          read (pin, within, at) =
              let reads = slice_get-get_or (pins_at c gate) pin (record { 0 = line }) within ∙ ap Some at in
              read_by_pin (record { gate = record { 0 = gate }; pin = pin }) line
              (record { in_circuit = ranked.in_circuit (place - 1) (record { 0 = 0 }) (omega arith); reads = reads })
              (swept.sound (gate_line c gate) is)

      -- none of its pins reads the line of a gate from its place on
      reads_none : (k : ℕ) → place - 1 ≤ k → k < length order
          → Contains (pins_at c gate) (record { 0 = gate_line c (gate_in k) }) → ⊥
      reads_none k from within (pin, has, at) =
          not_driven (place - 1) k from within
          (subst (λ (l : LineId). IsDriven c (take (place - 1) order) l.0) at
          (earlier (place - 1) (get_or order (place - 1) (record { 0 = 0 }))
          (slice_get-get_or order (place - 1) (record { 0 = 0 }) (omega arith))
          pin (record { 0 = gate_line c (gate_in k) }) has))

      -- so each marked gate from there on was marked before, and has the lines of its pins marked
      closed : (k : ℕ) → place - 1 ≤ k → k < length order → IsTrue (is_marked new (gate_line c (gate_in k)))
          → All (λ line. IsTrue (is_marked new line.0)) (pins_at c (gate_in k))
      closed k from within now = ⊎_elim was (λ read. absurd (reads_none k from within read)) ((adds _).0 now)
        where
          own : All (λ line. IsTrue (is_marked new line.0)) (pins_at c gate)
          own pin d has =
              (adds (get_or (pins_at c gate) pin d).0).1 (inr (Contains-get_or (pins_at c gate) pin d has))

          was : IsTrue (is_marked marks (gate_line c (gate_in k)))
              → All (λ line. IsTrue (is_marked new line.0)) (pins_at c (gate_in k))
          was before =
              ⊎_elim
              (λ here. let at : place - 1 ≡ k = omega arith in
              subst (λ j. All (λ (l : LineId). IsTrue (is_marked new l.0)) (pins_at c (gate_in j))) at own)
              (λ later. λ pin d has. kept _ (swept.closed k later within before pin d has))
              (cases_lt k place)

      -- a marked gate marks the lines of its pins
      pub turned : IsSwept (place - 1) new
      turned = record { sound = sound; end_marked = kept end swept.end_marked; closed = closed }
