-- The four forms of a row: whatever pins it means, its form is one of them, so the last row for a pin is the latest of four.
use Rattle.std.proofs.Common.{◌≡◌, ◌<◌, ◌||◌, Bool, true, false, eqb, List, refl, sym}
use Rattle.pd_base.specs.declared.ids.PinRef.{PinRef}
use Rattle.netlist.specs.Circuit.{Circuit}
use Rattle.netlist.specs.declared.limits.TheConstants.{MOST_FAN_IN}
use Rattle.netlist.specs.Pins.{IsPin}
use Rattle.delay_annotation.specs.declared.setting.Pins.{Pins}
use Rattle.delay_annotation.specs.declared.setting.Pins.TheVariants as pins
use Rattle.delay_annotation.specs.declared.setting.Setting.{Setting}
use Rattle.delay_annotation.specs.DelayFile.{delays_by, is_among}
use Rattle.delay_annotation.specs.LastRows.{KeepsLast, is_all, is_numbered, is_of_gate, is_one, last_for}
use Rattle.delay_annotation.specs.declared.last.LastRows.{LastRows}
use Rattle.delay_annotation.proofs.LastOf.{last_row-delay, last_row-joined, last_row-same}

-- or is false with false
or_false : (b : Bool) → b ≡ (b || false)
or_false true = refl
or_false false = refl

-- a pin is among those that are meant where the form of the row is one of the pin's four
pub among_by_form : (pin : PinRef) (own : Pins)
    → ((is_all own || is_of_gate pin.gate.0 own) || (is_numbered pin.pin own || is_one pin own)) ≡ is_among own pin
among_by_form pin pins.All = refl
among_by_form pin (pins.OfGate gate) = sym (or_false (eqb pin.gate.0 gate.0))
among_by_form pin (pins.Numbered number) = sym (or_false (eqb pin.pin number))
among_by_form pin (pins.One own) = refl

-- the latest of the last rows of the four forms gives the pin's delay
pub last_for_pin : (c : Circuit) (kept : LastRows) (settings : List Setting) (pin : PinRef) → KeepsLast c kept settings
    → IsPin c pin → pin.pin < MOST_FAN_IN → (last_for c kept pin).delays ≡ delays_by settings pin
last_for_pin c kept settings pin keeps is below =
    last_row-delay (λ own. is_among own pin) settings (last_for c kept pin)
    (last_row-same (λ own. by_gate own || by_number own) (λ own. is_among own pin) (among_by_form pin) settings
    (last_for c kept pin)
    (last_row-joined by_gate by_number settings _ _
    (last_row-joined is_all (is_of_gate pin.gate.0) settings _ _ keeps.all (keeps.gates pin.gate.0 is.in_circuit))
    (last_row-joined (is_numbered pin.pin) (is_one pin) settings _ _ (keeps.numbers pin.pin below) (keeps.pins pin is))))
  where
    by_gate : Pins → Bool
    by_gate own = is_all own || is_of_gate pin.gate.0 own

    by_number : Pins → Bool
    by_number own = is_numbered pin.pin own || is_one pin own
