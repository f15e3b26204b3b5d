-- One delay that is changed in the list, and lists that hold one delay alone.
use Rattle.std.proofs.Common.{◌≡◌, ◌≢◌, ℕ, ◌<◌, List, length, get_or, set, replicate, get_or-set_same, get_or-set_other, sym, ap, ◌∙◌, arith}
use Rattle.std.proofs.lemmas.List.{get_or-replicate}
use Rattle.pd_base.specs.declared.ids.PinRef.{PinRef}
use Rattle.netlist.specs.Circuit.{Circuit}
use Rattle.netlist.specs.Pins.{IsPin, IsPinOn, pin_place_in, pin_total}
use Rattle.netlist.proofs.PinRow.{pin_on_line, place_within, places_differ}
use Rattle.delay_annotation.specs.Annotation.{SetsDelay, Fits, delays_of}

-- where the delay at a pin's place is written, this pin has it and the others keep theirs
pub set_changes : (c : Circuit) (old new : List ℕ) (pin : PinRef) (delay place : ℕ) → Fits c old → IsPin c pin
    → place ≡ pin_place_in c pin → new ≡ set old place delay → SetsDelay c old new pin delay
set_changes c old new pin delay place fits is at written = record {
  changed = ap (λ at. get_or new at 0) (sym at)
      ∙ ap (λ delays. get_or delays place 0) written ∙ get_or-set_same old place delay 0 within;
  others = others;
}
  where
    within : place < length old
    within = omega (arith, at, fits.one_each, place_within c pin is)

    others : (other : PinRef) → IsPin c other → other ≢ pin → delays_of c new other ≡ delays_of c old other
    others other is_other differs =
        let apart = places_differ c pin other is is_other differs in
        ap (λ delays. get_or delays (pin_place_in c other) 0) written
        ∙ get_or-set_other old place (pin_place_in c other) delay 0 (λ same. apart (same ∙ at))

-- where all delays are one, each pin on a line has it
pub all_alike : (c : Circuit) (kept : List ℕ) (delay count : ℕ) → count ≡ pin_total c → kept ≡ replicate count delay
    → (pin : PinRef) (line : ℕ) → IsPinOn c pin line → delays_of c kept pin ≡ delay
all_alike c kept delay count total alike pin line on =
    let within = place_within c pin (pin_on_line c pin line on) in
    ap (λ delays. get_or delays (pin_place_in c pin) 0) alike
    ∙ get_or-replicate count (pin_place_in c pin) delay 0 (omega arith)
