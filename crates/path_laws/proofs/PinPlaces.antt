-- A gate's pin values as one list, each made of the pin's number and line, and what is known of the pins place by place:
-- the on-path pin, and the side pins, which are all others. OnPathPin.antt says what a gate makes of such lists.
use Rattle.std.proofs.Common.{◌≡◌, ◌≢◌, ℕ, zero, suc, ◌+◌, ℤ, Bool, not, List, [], ◌∷◌, map, length, slice_get, Some, refl, sym, ap, ap₂, ◌∙◌, subst, zero-add, add-zero, arith}
use Rattle.std.specs.List.{AllZip}
use Rattle.pd_base.specs.declared.ids.LineId.{LineId}
use Rattle.pd_base.specs.declared.ids.PinRef.{PinRef}
use Rattle.netlist.specs.Waves.{Wave, PinCopy, pin_values}
use Rattle.path_laws.proofs.OnPathPin.{DifferAt}

-- the values at a gate's pins, each of its number and its line
abbrev pub at_pins : (ℕ → LineId → Bool) → List LineId → List Bool
at_pins pin_value [] = []
at_pins pin_value (line ∷ lines) = pin_value zero line ∷ at_pins (λ pin. pin_value (suc pin)) lines

-- a pin of a gate by its numbers
abbrev pub pin_ref : ℕ → ℕ → PinRef
pin_ref gate pin = record { gate = record { 0 = gate }; pin = pin }

-- there are as many values as pins
pub length-at_pins : (pin_value : ℕ → LineId → Bool) (lines : List LineId)
    → length (at_pins pin_value lines) ≡ length lines
length-at_pins pin_value [] = refl
length-at_pins pin_value (line ∷ lines) = ap suc (length-at_pins (λ pin. pin_value (suc pin)) lines)

-- the values of the pins' lines are such a list
pub map-is_at_pins : (value : ℕ → Bool) (lines : List LineId)
    → map (λ line. value line.0) lines ≡ at_pins (λ pin line. value line.0) lines
map-is_at_pins value [] = refl
map-is_at_pins value (line ∷ lines) = ap (λ values. value line.0 ∷ values) (map-is_at_pins value lines)

-- the value that a pin of a gate shows at a time, where its line has this wave
abbrev pub copy_value : PinCopy → ℕ → (ℕ → Wave) → ℤ → ℕ → LineId → Bool
copy_value copy gate wave time pin line = copy (pin_ref gate pin) (wave line.0) time

module _ (copy : PinCopy) (gate : ℕ) (wave : ℕ → Wave) (time : ℤ) where
  -- what the pins from one on show of their lines' waves is such a list
  pin_values_from : (first : ℕ) (pin_value : ℕ → LineId → Bool) (lines : List LineId)
      → ((pin : ℕ) (line : LineId) → pin_value pin line ≡ copy_value copy gate wave time (first + pin) line)
      → pin_values copy gate first (map (λ line. wave line.0) lines) time ≡ at_pins pin_value lines
  pin_values_from first pin_value [] each = refl
  pin_values_from first pin_value (line ∷ lines) each =
      ap₂ (λ value values. value ∷ values)
      (ap (λ pin. copy_value copy gate wave time pin line) (sym (add-zero first)) ∙ sym (each zero line))
      (pin_values_from (first + 1) (λ pin. pin_value (suc pin)) lines
      (λ pin other. each (suc pin) other ∙ ap (λ k. copy_value copy gate wave time k other) (shifted pin)))
    where
      shifted : (pin : ℕ) → first + suc pin ≡ first + 1 + pin
      shifted pin = omega arith

  -- what the pins show of their lines' waves is such a list
  pub pin_values-is_at_pins : (lines : List LineId)
      → pin_values copy gate 0 (map (λ line. wave line.0) lines) time ≡ at_pins (copy_value copy gate wave time) lines
  pin_values-is_at_pins lines =
      pin_values_from 0 (copy_value copy gate wave time) lines
      (λ pin line. ap (λ k. copy_value copy gate wave time k line) (sym (zero-add pin)))

module _ (Held : Bool → Bool → Type 0) where
  -- two values of each pin that are held make two lists that are held, place by place
  zip_at_pins : (pin_value last_value : ℕ → LineId → Bool) (lines : List LineId)
      → ((pin : ℕ) (line : LineId) → slice_get lines pin ≡ Some line → Held (pin_value pin line) (last_value pin line))
      → AllZip Held (at_pins pin_value lines) (at_pins last_value lines)
  zip_at_pins pin_value last_value [] held = tt
  zip_at_pins pin_value last_value (line ∷ lines) held = (
    held zero line refl,
    zip_at_pins (λ pin. pin_value (suc pin)) (λ pin. last_value (suc pin)) lines (λ pin. held (suc pin)),
  )

  -- the on-path pin's values and those of all other pins, put together
  pub differ_at_pins : (final : Bool) (pin_value last_value : ℕ → LineId → Bool) (lines : List LineId)
      (on_path : ℕ) (line : LineId)
      → slice_get lines on_path ≡ Some line → pin_value on_path line ≡ not final → last_value on_path line ≡ final
      → ((pin : ℕ) (side : LineId) → pin ≢ on_path → slice_get lines pin ≡ Some side
      → Held (pin_value pin side) (last_value pin side))
      → DifferAt Held final on_path (at_pins pin_value lines) (at_pins last_value lines)
  differ_at_pins final pin_value last_value [] on_path line e other same held = absurd cc
  differ_at_pins final pin_value last_value (first ∷ lines) zero line e other same held =
      let here : line ≡ first = cc in (
        subst (λ l. pin_value zero l ≡ not final) here other,
        subst (λ l. last_value zero l ≡ final) here same,
        zip_at_pins (λ pin. pin_value (suc pin)) (λ pin. last_value (suc pin)) lines
            (λ pin side at. held (suc pin) side (omega arith) at),
      )
  differ_at_pins final pin_value last_value (first ∷ lines) (suc on_path) line e other same held = (
    held zero first (omega arith) refl,
    differ_at_pins final (λ pin. pin_value (suc pin)) (λ pin. last_value (suc pin)) lines on_path line e other same
        (λ pin side apart at. held (suc pin) side (omega arith) at),
  )
