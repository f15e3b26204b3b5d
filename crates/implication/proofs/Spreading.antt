-- The lines reached from a source are found by the fan-out of one after the other.
use Rattle.std.proofs.Common.{◌≡◌, ℕ, ◌+◌, ◌<◌, ◌≤◌, ◌⊎◌, inl, inr, ⊎_elim, Bool, true, false, List, [], ◌∷◌, ◌++◌, length, take, get_or, Some, refl, sym, ap, ◌∙◌, subst, arith, take_all, append_assoc}
use Rattle.std.specs.List.{All, Contains}
use Rattle.std.proofs.lemmas.Bool.{cases_lt, false≢true}
use Rattle.std.proofs.lemmas.List.{append-nil, length-append, get_or_default, get_or_append_left}
use Rattle.std.proofs.lemmas.List.Elements.{All-more, All-contains, All-weaker, Contains-append_left, Contains-get_or}
use Rattle.pd_base.specs.declared.ids.LineId.{LineId}
use Rattle.pd_base.specs.declared.ids.PinRef.{PinRef}
use Rattle.netlist.specs.Circuit.{Circuit, source_count, gate_count, line_count, gate_line}
use Rattle.netlist.specs.Pins.{IsFanout}
use Rattle.state_laws.specs.Cones.{IsLineIn}
use Rattle.state_laws.specs.Forward.{AreReached}
use Rattle.cones.specs.FoundLines.{FoundSet, FindsMore}
use Rattle.cones.proofs.Finding.{only_one, one_there}
use Rattle.hulls.specs.Awaiting.{is_inside}
use Rattle.implication.specs.Reached.{AreReadersIn, IsOfGateInside, HasMore}

-- lines of gates were added, and those of the gates inside that these pins are of are there
pub record HasPinsReached (c : Circuit) (inside : List Bool) (pins : List PinRef) (old new : FoundSet) : Type 0 where
  pub more : HasMore c inside old new
  pub each : All (λ pin. is_inside inside pin.gate.0 ≡ true → Contains new.lines (record { 0 = gate_line c pin.gate.0 })) pins

-- the gates inside that read one of the first so many lines have their own among the lines reached
pub record IsSpread (c : Circuit) (inside : List Bool) (source : ℕ) (seen : ℕ) (reached : FoundSet) : Type 0 where
  pub room : reached.room ≡ line_count c
  pub own : Contains reached.lines (record { 0 = source })
  pub sound : (line : ℕ) → Contains reached.lines (record { 0 = line }) → (line ≡ source) ⊎ IsOfGateInside c inside line
  pub few : seen ≤ length reached.lines
  pub readers : (k : ℕ) → k < seen → AreReadersIn c inside (get_or reached.lines k (record { 0 = 0 })) reached.lines

abbrev nowhere : LineId
nowhere = record { 0 = 0 }

module _ (c : Circuit) (inside : List Bool) where
  more_none : (reached : FoundSet) → HasMore c inside reached reached
  more_none reached = record {
    room = refl;
    more = [];
    behind = sym (append-nil reached.lines);
    sound = λ line has. inl has;
  }

  more_on : (old mid new : FoundSet) → HasMore c inside old mid → HasMore c inside mid new → HasMore c inside old new
  more_on old mid new before after = record {
    room = after.room ∙ before.room;
    more = before.more ++ after.more;
    behind = after.behind ∙ ap (λ (ls : List LineId). ls ++ after.more) before.behind ∙ append_assoc old.lines before.more after.more;
    sound = λ line has. ⊎_elim (before.sound line) (λ of. inr of) (after.sound line has);
  }

  -- what stood there still does
  stands_more : (old new : FoundSet) → HasMore c inside old new → (line : LineId) → Contains old.lines line → Contains new.lines line
  stands_more old new has line stands =
      subst (λ (ls : List LineId). Contains ls line) (sym has.behind) (Contains-append_left old.lines has.more line stands)

  -- the line of a gate is found
  found_more : (line : LineId) → IsOfGateInside c inside line.0 → (old new : FoundSet) → FindsMore (line ∷ []) old new → HasMore c inside old new
  found_more line of old new finds = record {
    room = finds.room;
    more = finds.more;
    behind = finds.behind;
    sound = λ other has. ⊎_elim (λ was. inl was)
        (λ (one : Contains (line ∷ []) (record { 0 = other })).
        inr (subst (λ (l : LineId). IsOfGateInside c inside l.0) (only_one line (record { 0 = other }) one) of))
        ((finds.exactly other).0 has);
  }

  found_stands : (line : LineId) (old new : FoundSet) → FindsMore (line ∷ []) old new → Contains new.lines line
  found_stands line old new finds = (finds.exactly line.0).1 (inr (one_there line))

  abbrev IsIn : List LineId → PinRef → Type 0
  IsIn lines pin = is_inside inside pin.gate.0 ≡ true → Contains lines (record { 0 = gate_line c pin.gate.0 })

  pub pins_none : (pins : List PinRef) (reached : FoundSet) → HasPinsReached c inside (take 0 pins) reached reached
  pins_none pins reached = record { more = more_none reached; each = λ k d k_in. absurd (omega arith) }

  module _ (pins : List PinRef) (index : ℕ) (none : PinRef) (in_pins : index < length pins) (old mid : FoundSet)
      (before : HasPinsReached c inside (take index pins) old mid) where
    -- a pin of a gate outside is passed over
    pub pins_skip : is_inside inside (get_or pins index none).gate.0 ≡ false → HasPinsReached c inside (take (index + 1) pins) old mid
    pins_skip outside = record {
      more = before.more;
      each = All-more (IsIn mid.lines) pins index none in_pins before.each (λ is. absurd (false≢true (sym outside ∙ is)));
    }

    -- the line of the gate of a pin is added
    pub pins_more : (get_or pins index none).gate.0 < gate_count c → is_inside inside (get_or pins index none).gate.0 ≡ true → (new : FoundSet)
        → FindsMore (record { 0 = gate_line c (get_or pins index none).gate.0 } ∷ []) mid new
        → HasPinsReached c inside (take (index + 1) pins) old new
    pins_more within is_in new finds =
        let line : LineId = record { 0 = gate_line c (get_or pins index none).gate.0 } in
        let more = found_more line ((get_or pins index none).gate.0, within, is_in, refl) mid new finds in record {
          more = more_on old mid new before.more more;
          each = All-more (IsIn new.lines) pins index none in_pins
              (All-weaker (IsIn mid.lines) (IsIn new.lines)
              (λ pin stands is. stands_more mid new more (record { 0 = gate_line c pin.gate.0 }) (stands is)) (take index pins) before.each)
              (λ is. found_stands line mid new finds);
        }

  -- after the last pin of the fan-out of a line all its readers are reached
  pub pins_all : (pins : List PinRef) (index : ℕ) → length pins ≤ index → (line : LineId) → IsFanout c line.0 pins → (old new : FoundSet)
      → HasPinsReached c inside (take index pins) old new → AreReadersIn c inside line new.lines
  pins_all pins index last line is old new has gate pin within is_in reads =
      let here : PinRef = record { gate = record { 0 = gate }; pin = pin } in
      All-contains (IsIn new.lines) pins here
      (subst (All (IsIn new.lines)) (take_all index pins last) has.each)
      (is.whole here (record { in_circuit = within; reads = reads })) is_in

  module _ (source : LineId) where
    -- at first the source alone is reached
    pub spread_first : (old new : FoundSet) → old.lines ≡ [] → old.room ≡ line_count c → FindsMore (source ∷ []) old new
        → IsSpread c inside source.0 0 new
    spread_first old new none room finds = record {
      room = finds.room ∙ room;
      own = found_stands source old new finds;
      sound = λ line has. ⊎_elim
          (λ (was : Contains old.lines (record { 0 = line })).
          let nothing : Contains [] (record { 0 = line }) = subst (λ (ls : List LineId). Contains ls (record { 0 = line })) none was in
          absurd (omega (arith, nothing.1)))
          (λ (one : Contains (source ∷ []) (record { 0 = line })).
          inl (sym (ap (λ (l : LineId). l.0) (only_one source (record { 0 = line }) one))))
          ((finds.exactly line).0 has);
      few = omega arith;
      readers = λ k less. absurd (omega arith);
    }

    -- one line more is seen
    pub spread_more : (seen : ℕ) (old new : FoundSet) → IsSpread c inside source.0 seen old → seen < length old.lines
        → HasMore c inside old new → AreReadersIn c inside (get_or old.lines seen nowhere) new.lines → IsSpread c inside source.0 (seen + 1) new
    spread_more seen old new spread in_lines more readers = record {
      room = more.room ∙ spread.room;
      own = stands_more old new more source spread.own;
      sound = λ line has. ⊎_elim (spread.sound line) (λ of. inr of) (more.sound line has);
      few = omega (arith, ap length more.behind, length-append old.lines more.more);
      readers = λ k less.
          let kept : get_or new.lines k nowhere ≡ get_or old.lines k nowhere =
          ap (λ (ls : List LineId). get_or ls k nowhere) more.behind ∙ get_or_append_left old.lines more.more nowhere k (omega arith) in
          subst (λ (line : LineId). AreReadersIn c inside line new.lines) (sym kept)
          (⊎_elim
          (λ (before : k < seen). λ gate pin within is reads.
          stands_more old new more (record { 0 = gate_line c gate }) (spread.readers k before gate pin within is reads))
          (λ (last : seen ≤ k).
          let same : k ≡ seen = omega arith in
          subst (λ (n : ℕ). AreReadersIn c inside (get_or old.lines n nowhere) new.lines) (sym same) readers)
          (cases_lt k seen));
    }

    -- when all are seen, all that can be reached are
    pub spread_all : (seen : ℕ) (reached : FoundSet) → IsSpread c inside source.0 seen reached → length reached.lines ≤ seen
        → AreReached c (is_inside inside) source.0 reached.lines
    spread_all seen reached spread last = record {
      own = spread.own;
      behind = λ k d within.
          let line = get_or reached.lines k d in
          ⊎_elim (λ here. inl here) (λ (of : IsOfGateInside c inside line.0). let at = of.3 in inr (omega arith))
          (spread.sound line.0 (Contains-get_or reached.lines k d within));
      readers = λ gate pin line within is reads stands.
          let at : get_or reached.lines stands.0 nowhere ≡ line =
          get_or_default reached.lines stands.0 nowhere line stands.1 ∙ stands.2 in
          spread.readers stands.0 (omega (arith, stands.1)) gate pin within is (reads ∙ ap Some (sym at));
    }

    -- and each of them is a source or the line of a gate inside
    pub spread_inside : source.0 < source_count c → (seen : ℕ) (reached : FoundSet) → IsSpread c inside source.0 seen reached
        → All (λ line. IsLineIn c (is_inside inside) line.0) reached.lines
    spread_inside is_source seen reached spread k d within =
        let line = get_or reached.lines k d in
        ⊎_elim (λ (here : line.0 ≡ source.0). inl (omega arith)) (λ (of : IsOfGateInside c inside line.0). inr of)
        (spread.sound line.0 (Contains-get_or reached.lines k d within))
