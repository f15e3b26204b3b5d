-- The lines reached from a source are found in one pass over all gates in rank order: a gate reads no line of a gate that stands behind it,
-- so that each gate is passed once all that it reads is known.
use Rattle.std.proofs.Common.{◌≡◌, ℕ, ◌+◌, ◌<◌, ◌≤◌, ◌⊎◌, inr, ⊎_elim, Bool, true, List, [], ◌∷◌, length, get_or, slice_get, Some, ap, ◌∙◌, subst, arith}
use Rattle.std.specs.List.{Contains}
use Rattle.std.proofs.lemmas.Bool.{cases_lt}
use Rattle.std.proofs.lemmas.List.{get_or_default}
use Rattle.std.proofs.lemmas.List.Elements.{Contains-get_or}
use Rattle.pd_base.specs.declared.ids.GateId.{GateId}
use Rattle.pd_base.specs.declared.ids.LineId.{LineId}
use Rattle.netlist.specs.Circuit.{Circuit, gate_count, line_count, gate_line, pins_at}
use Rattle.netlist.specs.Lawful.{IsCircuit}
use Rattle.netlist.specs.Levels.{level, IsRankOrder}
use Rattle.path_laws.proofs.StepCounts.{step_raises}
use Rattle.cones.specs.FoundLines.{FoundSet, FindsMore}
use Rattle.cones.proofs.RankedCones.{never_after}
use Rattle.hulls.specs.Awaiting.{is_inside}
use Rattle.implication.specs.Reached.{IsOfGateInside}
use Rattle.implication.proofs.Spreading.{IsSpread, spread_first}

-- what is read where there is no gate
abbrev pub no_gate : GateId
no_gate = record { 0 = 0 }

-- the gates inside that stand before a place of the order and read a line that is reached have their own lines among these
pub record IsReachedTo (c : Circuit) (inside : List Bool) (source : ℕ) (order : List GateId) (place : ℕ) (reached : FoundSet) : Type 0 where
  pub room : reached.room ≡ line_count c
  pub own : Contains reached.lines (record { 0 = source })
  pub sound : (line : ℕ) → Contains reached.lines (record { 0 = line }) → (line ≡ source) ⊎ IsOfGateInside c inside line
  pub readers : (k : ℕ) → k < place → is_inside inside (get_or order k no_gate).0 ≡ true → (pin : ℕ) (line : LineId)
      → slice_get (pins_at c (get_or order k no_gate).0) pin ≡ Some line → Contains reached.lines line
      → Contains reached.lines (record { 0 = gate_line c (get_or order k no_gate).0 })

module _ (c : Circuit) (circuit : IsCircuit c) (inside : List Bool) (source : LineId) (order : List GateId) (is : IsRankOrder c order) where
  -- at first the source alone is reached
  pub reached_first : (old new : FoundSet) → old.lines ≡ [] → old.room ≡ line_count c → FindsMore (source ∷ []) old new
      → IsReachedTo c inside source.0 order 0 new
  reached_first old new none room finds =
      let first = spread_first c inside source old new none room finds in record {
        room = first.room;
        own = first.own;
        sound = first.sound;
        readers = λ k before. absurd (omega (arith, before));
      }

  module _ (place : ℕ) (within : place < length order) (old new : FoundSet) (before : IsReachedTo c inside source.0 order place old)
      (room : new.room ≡ old.room) (still : (line : LineId) → Contains old.lines line → Contains new.lines line)
      (only : (line : ℕ) → Contains new.lines (record { 0 = line }) → Contains old.lines (record { 0 = line })
      ⊎ ((is_inside inside (get_or order place no_gate).0 ≡ true) × (line ≡ gate_line c (get_or order place no_gate).0)))
      (reads : is_inside inside (get_or order place no_gate).0 ≡ true → (pin : ℕ) (line : LineId)
      → slice_get (pins_at c (get_or order place no_gate).0) pin ≡ Some line → Contains old.lines line
      → Contains new.lines (record { 0 = gate_line c (get_or order place no_gate).0 })) where
    abbrev here : GateId
    here = get_or order place no_gate

    here_within : here.0 < gate_count c
    here_within = is.in_circuit place no_gate within

    -- a gate that stands no later does not read its line
    reads_not : (k : ℕ) → k ≤ place → (pin : ℕ) (line : LineId) → slice_get (pins_at c (get_or order k no_gate).0) pin ≡ Some line
        → line.0 ≡ gate_line c here.0 → ⊥
    reads_not k earlier pin line read same =
        let gate = get_or order k no_gate in
        let raises : level c line.0 < level c (gate_line c gate.0) =
        step_raises c circuit line.0 (record { gate = gate; pin = pin })
        (record { in_circuit = is.in_circuit k no_gate (omega (arith, earlier, within)); reads = read }) in
        let lower : level c (gate_line c here.0) < level c (gate_line c gate.0) =
        subst (λ n. level c n < level c (gate_line c gate.0)) same raises in
        ⊎_elim (λ (less : k < place). never_after c gate here lower (is.rising k place no_gate less within))
        (λ (more : place ≤ k).
        let one : k ≡ place = omega (arith, earlier, more) in
        absurd (omega (arith, lower, ap (λ j. level c (gate_line c (get_or order j no_gate).0)) one)))
        (cases_lt k place)

    -- so a line of new ones that such a gate reads was reached before
    was_there : (k : ℕ) → k ≤ place → (pin : ℕ) (line : LineId) → slice_get (pins_at c (get_or order k no_gate).0) pin ≡ Some line
        → Contains new.lines line → Contains old.lines line
    was_there k earlier pin line read has =
        ⊎_elim (λ (was : Contains old.lines line). was)
        (λ (own : (is_inside inside here.0 ≡ true) × (line.0 ≡ gate_line c here.0)). absurd (reads_not k earlier pin line read own.1))
        (only line.0 has)

    -- one gate more was passed
    pub reached_more : IsReachedTo c inside source.0 order (place + 1) new
    reached_more = record {
      room = room ∙ before.room;
      own = still (record { 0 = source.0 }) before.own;
      sound = λ line has. ⊎_elim (λ (was : Contains old.lines (record { 0 = line })). before.sound line was)
          (λ (own : (is_inside inside here.0 ≡ true) × (line ≡ gate_line c here.0)). inr (here.0, here_within, own.0, own.1))
          (only line has);
      readers = λ k front is_in pin line read has.
          ⊎_elim
          (λ (less : k < place). still (record { 0 = gate_line c (get_or order k no_gate).0 })
          (before.readers k less is_in pin line read (was_there k (omega (arith, less)) pin line read has)))
          (λ (more : place ≤ k).
          let one : place ≡ k = omega (arith, front, more) in
          let At : ℕ → Type 0 = λ j. is_inside inside (get_or order j no_gate).0 ≡ true
          → slice_get (pins_at c (get_or order j no_gate).0) pin ≡ Some line
          → Contains new.lines (record { 0 = gate_line c (get_or order j no_gate).0 }) in
          subst At one
          (λ in_here read_here. reads in_here pin line read_here (was_there place (omega arith) pin line read_here has)) is_in read)
          (cases_lt k place);
    }

  -- once all gates were passed, all that can be reached is
  pub reached_all : (reached : FoundSet) → IsReachedTo c inside source.0 order (length order) reached
      → IsSpread c inside source.0 (length reached.lines) reached
  reached_all reached to = record {
    room = to.room;
    own = to.own;
    sound = to.sound;
    few = omega arith;
    readers = λ k seen gate pin within is_in reads.
        let there = is.whole gate within in
        let at : get_or order there.0 no_gate ≡ record { 0 = gate } = get_or_default order there.0 no_gate (record { 0 = gate }) there.1 ∙ there.2 in
        let line = get_or reached.lines k (record { 0 = 0 }) in
        let At : GateId → Type 0 = λ g. is_inside inside g.0 ≡ true → slice_get (pins_at c g.0) pin ≡ Some line
        → Contains reached.lines (record { 0 = gate_line c g.0 }) in
        subst At at
        (λ in_there reads_there. to.readers there.0 there.1 in_there pin line reads_there
        (Contains-get_or reached.lines k (record { 0 = 0 }) seen)) is_in reads;
  }
