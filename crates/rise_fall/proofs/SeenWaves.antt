-- What the pins of a gate see, pin by pin, is what the gate's wave is made of.
use Rattle.std.proofs.Common.{◌≡◌, ℕ, zero, suc, ◌+◌, ◌<◌, ℤ, pos, ◌-ℤ◌, Bool, true, false, List, [], ◌∷◌, ◌++◌, map, length, get_or, refl, sym, ap, ap₂, subst, add-zero, zero-add, ◌∙◌, arith, ⊎_elim}
use Rattle.std.proofs.Math.Seq.{get_or-append_seam}
use Rattle.std.proofs.lemmas.Bool.{cases_lt}
use Rattle.std.proofs.lemmas.List.{get_or_append_left, length-append}
use Rattle.pd_base.specs.declared.ids.LineId.{LineId}
use Rattle.pd_base.specs.declared.ids.PinRef.{PinRef}
use Rattle.netlist.specs.Circuit.{Circuit, kind_at, pins_at}
use Rattle.netlist.specs.Values.{gate_value, parity}
use Rattle.netlist.specs.Waves.{PinCopy, delay_copy, pin_values}
use Rattle.delay_annotation.specs.RiseFall.{RisesAndFalls, rise_fall_of}
use Rattle.rise_fall.specs.Waves.{RiseFallDelays, rise_fall_copy, risen_fallen}
use Rattle.rise_fall.specs.GateWaves.{rise_fall_gate_wave}
use Rattle.delay_replay.specs.Changes.{Changes, AreChangesOf, wave_at}
use Rattle.delay_replay.specs.GateWaves.{delayed_gate_wave, gate_wave, line_wave}
use Rattle.delay_replay.specs.LineWaves.{kept_wave}
use Rattle.delay_replay.specs.PinChanges.{copy_at, copy_values}
use Rattle.delay_replay.specs.PinCopies.{merged_wave}
use Rattle.rise_fall.specs.Inside.GateCopies.{AreSeen, HaveOneDelay, pin_ref, seen_wave}
use Rattle.rise_fall.proofs.WindowLaws.{one_delay, rise_fall-keeps_constants}

-- waves that each show what a pin shows of its line, are together what the pins show
values_seen : (copy : PinCopy) (gate first : ℕ) (lines : List LineId) (copies waves : List Changes) (time : ℤ)
    → length copies ≡ length lines
    → ((pin : ℕ) → pin < length lines → wave_at (copy_at copies pin) time
    ≡ copy (record { gate = record { 0 = gate }; pin = first + pin }) (line_wave waves (get_or lines pin (record { 0 = 0 })).0) time)
    → copy_values copies time ≡ pin_values copy gate first (map (λ line. line_wave waves line.0) lines) time
values_seen copy gate first [] [] waves time many each = refl
values_seen copy gate first [] (own ∷ copies) waves time many each = absurd (omega arith)
values_seen copy gate first (line ∷ lines) [] waves time many each = absurd (omega arith)
values_seen copy gate first (line ∷ lines) (own ∷ copies) waves time many each =
    ap₂ (λ (value : Bool) values. value ∷ values)
    (each zero (omega arith) ∙ ap (λ pin. copy (record { gate = record { 0 = gate }; pin = pin }) (line_wave waves line.0) time) (add-zero first))
    (values_seen copy gate (first + 1) lines copies waves time (omega arith)
    (λ pin within. each (suc pin) (omega arith)
    ∙ ap (λ own. copy (record { gate = record { 0 = gate }; pin = own }) (line_wave waves (get_or lines pin (record { 0 = 0 })).0) time) (further pin)))
  where
    further : (n : ℕ) → first + suc n ≡ first + 1 + n
    further n = omega arith

module _ (delays : RiseFallDelays) (c : Circuit) (gate : ℕ) (waves copies : List Changes) where
  -- so they make the gate's wave
  pub merged_is_seen : AreSeen delays c gate (length (pins_at c gate)) waves copies → (time : ℤ)
      → merged_wave (kind_at c gate) copies time ≡ gate_wave (rise_fall_copy delays) c gate (line_wave waves) time
  merged_is_seen seen time =
      ap (gate_value (kind_at c gate))
      (values_seen (rise_fall_copy delays) gate 0 (pins_at c gate) copies waves time seen.one_each
      (λ pin within. (seen.each pin within).shows time ∙ ap (λ own. rise_fall_copy delays (record { gate = record { 0 = gate }; pin = own }) (line_wave waves (get_or (pins_at c gate) pin (record { 0 = 0 })).0) time) (sym (zero_add pin))))
    where
      zero_add : (n : ℕ) → 0 + n ≡ n
      zero_add n = omega arith

  -- no pin sees anything yet
  pub none_seen : copies ≡ [] → AreSeen delays c gate 0 waves copies
  none_seen none = record { one_each = ap length none; each = λ pin within. absurd (omega arith) }

  -- one pin more
  pub one_seen_more : (count : ℕ) (own : Changes) → AreSeen delays c gate count waves copies
      → AreChangesOf (seen_wave delays c gate count waves) own → AreSeen delays c gate (count + 1) waves (copies ++ own ∷ [])
  one_seen_more count own seen are = record {
    one_each = omega (arith, length-append copies (own ∷ []), seen.one_each);
    each = λ pin within.
        ⊎_elim
        (λ less. subst (AreChangesOf (seen_wave delays c gate pin waves))
        (sym (get_or_append_left copies (own ∷ []) _ pin (omega (arith, seen.one_each)))) (seen.each pin less))
        (λ last. let at : count ≡ pin = omega arith in
        subst (λ k. AreChangesOf (seen_wave delays c gate k waves) (copy_at (copies ++ own ∷ []) k)) at
        (subst (AreChangesOf (seen_wave delays c gate count waves))
        (sym (ap (λ k. copy_at (copies ++ own ∷ []) k) (sym seen.one_each) ∙ get_or-append_seam copies own [] _)) are))
        (cases_lt pin count);
  }

module _ (delays : RiseFallDelays) where
  -- a pin whose line changes only where its two delays are the same shows the line's wave later by its rise delay
  moved_at : (pin : PinRef) (before : Bool) (times : List ℤ) → (0 < length times → delays pin true ≡ delays pin false) → (time : ℤ)
      → delay_copy (λ own. delays own true) pin (wave_at (record { before = before; times = times })) time
      ≡ rise_fall_copy delays pin (wave_at (record { before = before; times = times })) time
  moved_at pin before [] same time =
      sym (rise_fall-keeps_constants delays pin (wave_at (record { before = before; times = [] })) (parity (before ∷ [])) (λ other. refl) time)
  moved_at pin before (change ∷ changes) same time =
      let wave = wave_at (record { before = before; times = change ∷ changes }) in
      sym (subst (λ fall. risen_fallen (delays pin true) fall wave time ≡ wave (time -ℤ pos (delays pin true)))
      (same (omega arith)) (one_delay (delays pin true) wave time))

  -- so do all pins from this one on
  values_moved : (gate first : ℕ) (lines : List LineId) (waves : List Changes) (time : ℤ)
      → ((pin : ℕ) → pin < length lines → 0 < length (kept_wave waves (get_or lines pin (record { 0 = 0 })).0).times
      → delays (pin_ref gate (first + pin)) true ≡ delays (pin_ref gate (first + pin)) false)
      → pin_values (delay_copy (λ own. delays own true)) gate first (map (λ line. line_wave waves line.0) lines) time
      ≡ pin_values (rise_fall_copy delays) gate first (map (λ line. line_wave waves line.0) lines) time
  values_moved gate first [] waves time same = refl
  values_moved gate first (line ∷ lines) waves time same =
      ap₂ (λ (value : Bool) values. value ∷ values)
      (moved_at (pin_ref gate first) (kept_wave waves line.0).before (kept_wave waves line.0).times
      (λ changes. subst (λ pin. delays (pin_ref gate pin) true ≡ delays (pin_ref gate pin) false) (add-zero first) (same zero (omega arith) changes)) time)
      (values_moved gate (first + 1) lines waves time
      (λ pin within changes. subst (λ own. delays (pin_ref gate own) true ≡ delays (pin_ref gate own) false) (further pin)
      (same (suc pin) (omega arith) changes)))
    where
      further : (n : ℕ) → first + suc n ≡ first + 1 + n
      further n = omega arith

-- and the gate's wave is that of its rise delays
pub one_delay_gate : (c : Circuit) (kept : RisesAndFalls) (gate : ℕ) (waves : List Changes)
    → HaveOneDelay (rise_fall_of c kept) c gate (length (pins_at c gate)) waves → (time : ℤ)
    → delayed_gate_wave c kept.rises gate waves time ≡ rise_fall_gate_wave c kept gate waves time
one_delay_gate c kept gate waves have time =
    ap (gate_value (kind_at c gate))
    (values_moved (rise_fall_of c kept) gate 0 (pins_at c gate) waves time
    (λ pin within changes. subst (λ own. rise_fall_of c kept (pin_ref gate own) true ≡ rise_fall_of c kept (pin_ref gate own) false) (sym (zero-add pin))
    (have.each pin within changes)))
