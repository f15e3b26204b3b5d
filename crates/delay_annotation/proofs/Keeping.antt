-- One setting more is kept at the place of its form: that place has it, and all other places keep what they had, which is the
-- last of their own form still.
use Rattle.std.proofs.Common.{◌≡◌, ◌≢◌, inl, inr, ⊎_elim, ◌⊎◌, ℕ, ◌+◌, ◌<◌, ◌&&◌, Bool, true, false, eqb, List, [], ◌∷◌, ◌++◌, length, get_or, set, replicate, get_or-set_same, get_or-set_other, refl, sym, ap, ap₂, subst, ◌∙◌, arith}
use Rattle.std.proofs.lemmas.List.{get_or-replicate}
use Rattle.std.proofs.lemmas.Bool.Decides.{eqb_tells}
use Rattle.pd_base.specs.declared.ids.GateId.{GateId}
use Rattle.pd_base.specs.declared.ids.PinRef.{PinRef}
use Rattle.netlist.specs.Circuit.{Circuit, gate_count}
use Rattle.netlist.specs.Pins.{IsPin, pin_place_in, pin_total, pins_before}
use Rattle.netlist.proofs.PinRow.{place_within, places_differ}
use Rattle.netlist.specs.declared.limits.TheConstants.{MOST_FAN_IN}
use Rattle.delay_annotation.specs.declared.setting.Pins.{Pins}
use Rattle.delay_annotation.specs.declared.setting.Pins.TheVariants as pins
use Rattle.delay_annotation.specs.declared.setting.Setting.{Setting}
use Rattle.delay_annotation.specs.LastRows.{HasRoomForRows, KeepsLast, TakesSetting, IsLastRow, first_number, is_all, is_numbered, is_of_gate, is_one, no_row_yet}
use Rattle.delay_annotation.specs.LastRows.IsLastRow.{none_passes}
use Rattle.delay_annotation.specs.declared.last.KeptRow.{KeptRow}
use Rattle.delay_annotation.specs.declared.last.LastRows.{LastRows}
use Rattle.delay_annotation.proofs.LastOf.{entry, last_row-kept, last_row-push}

-- what is said of a kept row is said of each row that is the same
same_row : {test : Pins → Bool} {settings : List Setting} {now was : KeptRow} → now ≡ was → IsLastRow test settings was
    → IsLastRow test settings now
same_row {test} {settings} same last = subst (IsLastRow test settings) (sym same) last

-- where nothing was taken, nothing is kept
pub nothing_kept : (c : Circuit) (kept : LastRows) (gates numbers pins : ℕ) → kept.all ≡ no_row_yet
    → gates ≡ gate_count c → pins ≡ pin_total c → numbers ≡ MOST_FAN_IN → kept.gates.items ≡ replicate gates no_row_yet
    → kept.numbers.items ≡ replicate numbers no_row_yet → kept.pins.items ≡ replicate pins no_row_yet → KeepsLast c kept []
nothing_kept c kept gates numbers pins all gate_total total number_total no_gates no_numbers no_pins = record {
  all = nothing is_all all;
  gates = λ gate within. nothing (is_of_gate gate) (ap (λ (l : List KeptRow). get_or l gate no_row_yet) no_gates
      ∙ get_or-replicate gates gate no_row_yet no_row_yet (omega arith));
  numbers = λ pin within. nothing (is_numbered pin) (ap (λ (l : List KeptRow). get_or l pin no_row_yet) no_numbers
      ∙ get_or-replicate numbers pin no_row_yet no_row_yet (omega arith));
  pins = λ pin is. let within = place_within c pin is in
      nothing (is_one pin) (ap (λ (l : List KeptRow). get_or l (pin_place_in c pin) no_row_yet) no_pins
      ∙ get_or-replicate pins (pin_place_in c pin) no_row_yet no_row_yet (omega arith));
}
  where
    nothing : (test : Pins → Bool) {own : KeptRow} → own ≡ no_row_yet → IsLastRow test [] own
    nothing test is = none_passes is (λ other from within. absurd (omega arith))

module _ (settings : List Setting) (setting : Setting) (number : ℕ) (own : Pins) (is : setting.pins ≡ own)
    (at : number ≡ first_number + length settings) where
  -- by a test that the setting fails the last row is what it was
  passed_over : (test : Pins → Bool) (was : KeptRow) → test own ≡ false → IsLastRow test settings was
      → IsLastRow test (settings ++ setting ∷ []) was
  passed_over test was fails last = last_row-kept test settings setting was (ap test is ∙ fails) last

  -- by one that it passes it is the setting
  found : (test : Pins → Bool) → test own ≡ true → IsLastRow test (settings ++ setting ∷ []) (entry number setting)
  found test passes = last_row-push test settings setting number at (ap test is ∙ passes)

  -- so at the place where it is written each test that has this place finds it, and at other places what it found before
  written : (test : Pins → Bool) (old : List KeptRow) (place other : ℕ) → place < length old
      → ((test own ≡ true) × (other ≡ place)) ⊎ ((test own ≡ false) × (other ≢ place))
      → IsLastRow test settings (get_or old other no_row_yet)
      → IsLastRow test (settings ++ setting ∷ []) (get_or (set old place (entry number setting)) other no_row_yet)
  written test old place other within (inl (passes, same)) last =
      same_row (ap (λ k. get_or (set old place (entry number setting)) k no_row_yet) same
      ∙ get_or-set_same old place (entry number setting) no_row_yet within) (found test passes)
  written test old place other within (inr (fails, differs)) last =
      same_row (get_or-set_other old place other (entry number setting) no_row_yet differs)
      (passed_over test (get_or old other no_row_yet) fails last)

-- a row for all pins
pub keeps_all : (c : Circuit) (old new : LastRows) (number : ℕ) (setting : Setting) → setting.pins ≡ pins.All
    → new.all ≡ entry number setting → new.gates ≡ old.gates → new.numbers ≡ old.numbers → new.pins ≡ old.pins
    → TakesSetting c number setting old new
keeps_all c old new number setting is all gates numbers pins_same settings at keeps = record {
  all = same_row all (found settings setting number pins.All is at is_all refl);
  gates = λ gate within. same_row (ap (λ g. get_or g.items gate no_row_yet) gates)
      (passed_over settings setting number pins.All is at (is_of_gate gate) _ refl (keeps.gates gate within));
  numbers = λ pin below. same_row (ap (λ n. get_or n.items pin no_row_yet) numbers)
      (passed_over settings setting number pins.All is at (is_numbered pin) _ refl (keeps.numbers pin below));
  pins = λ pin one. same_row (ap (λ p. get_or p.items (pin_place_in c pin) no_row_yet) pins_same)
      (passed_over settings setting number pins.All is at (is_one pin) _ refl (keeps.pins pin one));
}

-- a row for the pins of a gate
pub keeps_gate : (c : Circuit) (old new : LastRows) (number : ℕ) (setting : Setting) (own : GateId) → HasRoomForRows c old
    → own.0 < gate_count c → setting.pins ≡ pins.OfGate own → new.all ≡ old.all
    → new.gates.items ≡ set old.gates.items own.0 (entry number setting) → new.numbers ≡ old.numbers → new.pins ≡ old.pins
    → TakesSetting c number setting old new
keeps_gate c old new number setting own has inside is all gates numbers pins_same settings at keeps = record {
  all = same_row all (passed_over settings setting number (pins.OfGate own) is at is_all _ refl keeps.all);
  gates = λ gate within. same_row (ap (λ (l : List KeptRow). get_or l gate no_row_yet) gates)
      (written settings setting number (pins.OfGate own) is at (is_of_gate gate) old.gates.items own.0 gate
      (omega (arith, has.each_gate)) (eqb_tells gate own.0) (keeps.gates gate within));
  numbers = λ pin below. same_row (ap (λ n. get_or n.items pin no_row_yet) numbers)
      (passed_over settings setting number (pins.OfGate own) is at (is_numbered pin) _ refl (keeps.numbers pin below));
  pins = λ pin one. same_row (ap (λ p. get_or p.items (pin_place_in c pin) no_row_yet) pins_same)
      (passed_over settings setting number (pins.OfGate own) is at (is_one pin) _ refl (keeps.pins pin one));
}

-- a row for the pins of a number
pub keeps_number : (c : Circuit) (old new : LastRows) (number : ℕ) (setting : Setting) (own : ℕ) → HasRoomForRows c old
    → own < MOST_FAN_IN → setting.pins ≡ pins.Numbered own → new.all ≡ old.all → new.gates ≡ old.gates
    → new.numbers.items ≡ set old.numbers.items own (entry number setting) → new.pins ≡ old.pins
    → TakesSetting c number setting old new
keeps_number c old new number setting own has inside is all gates numbers pins_same settings at keeps = record {
  all = same_row all (passed_over settings setting number (pins.Numbered own) is at is_all _ refl keeps.all);
  gates = λ gate within. same_row (ap (λ g. get_or g.items gate no_row_yet) gates)
      (passed_over settings setting number (pins.Numbered own) is at (is_of_gate gate) _ refl (keeps.gates gate within));
  numbers = λ pin below. same_row (ap (λ (l : List KeptRow). get_or l pin no_row_yet) numbers)
      (written settings setting number (pins.Numbered own) is at (is_numbered pin) old.numbers.items own pin
      (omega (arith, has.each_number)) (eqb_tells pin own) (keeps.numbers pin below));
  pins = λ pin one. same_row (ap (λ p. get_or p.items (pin_place_in c pin) no_row_yet) pins_same)
      (passed_over settings setting number (pins.Numbered own) is at (is_one pin) _ refl (keeps.pins pin one));
}

-- a test of a pin tells whether it is this one, and so whether its place is that of this one
place_tells : (c : Circuit) (own pin : PinRef) → IsPin c own → IsPin c pin
    → ((is_one pin (pins.One own) ≡ true) × (pin_place_in c pin ≡ pin_place_in c own))
    ⊎ ((is_one pin (pins.One own) ≡ false) × (pin_place_in c pin ≢ pin_place_in c own))
place_tells c own pin is_own is =
    ⊎_elim
    (λ (gates, same_gate). ⊎_elim
    (λ (numbers, same_number). inl (
      ap₂ (λ a b. a && b) gates numbers,
      ap₂ (λ gate number. pins_before c gate + number) same_gate same_number,
    ))
    (λ (numbers, differs). inr (
      ap₂ (λ a b. a && b) gates numbers,
      apart (λ same. differs (ap (λ (p : PinRef). p.pin) same)),
    ))
    (eqb_tells pin.pin own.pin))
    (λ (gates, differs). inr (
      ap (λ a. a && eqb pin.pin own.pin) gates,
      apart (λ same. differs (ap (λ (p : PinRef). p.gate.0) same)),
    ))
    (eqb_tells pin.gate.0 own.gate.0)
  where
    apart : pin ≢ own → pin_place_in c pin ≢ pin_place_in c own
    apart differs = places_differ c own pin is_own is differs

-- a row for one pin
pub keeps_pin : (c : Circuit) (old new : LastRows) (number : ℕ) (setting : Setting) (own : PinRef) (place : ℕ) → HasRoomForRows c old
    → IsPin c own → place ≡ pin_place_in c own → setting.pins ≡ pins.One own → new.all ≡ old.all → new.gates ≡ old.gates
    → new.numbers ≡ old.numbers → new.pins.items ≡ set old.pins.items place (entry number setting)
    → TakesSetting c number setting old new
keeps_pin c old new number setting own place has inside here is all gates numbers pins_set settings at keeps = record {
  all = same_row all (passed_over settings setting number (pins.One own) is at is_all _ refl keeps.all);
  gates = λ gate within. same_row (ap (λ g. get_or g.items gate no_row_yet) gates)
      (passed_over settings setting number (pins.One own) is at (is_of_gate gate) _ refl (keeps.gates gate within));
  numbers = λ pin below. same_row (ap (λ n. get_or n.items pin no_row_yet) numbers)
      (passed_over settings setting number (pins.One own) is at (is_numbered pin) _ refl (keeps.numbers pin below));
  pins = λ pin one. same_row (ap (λ (l : List KeptRow). get_or l (pin_place_in c pin) no_row_yet) pins_set
      ∙ ap (λ k. get_or (set old.pins.items k (entry number setting)) (pin_place_in c pin) no_row_yet) here)
      (written settings setting number (pins.One own) is at (is_one pin) old.pins.items (pin_place_in c own)
      (pin_place_in c pin) (omega (arith, has.each_pin, place_within c own inside))
      (place_tells c own pin inside one) (keeps.pins pin one));
}
