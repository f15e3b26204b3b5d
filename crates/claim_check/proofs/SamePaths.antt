-- Two paths are the same where their sources and their steps are, as the program tests it.
use Rattle.std.proofs.Common.{◌≡◌, Bool, ◌&&◌, eqb, eq-eqb, List, ap, ap₂}
use Rattle.std.proofs.lemmas.Bool.{and_parts, eqb-true}
use Rattle.std.specs.Bool.{Decides}
use Rattle.std.specs.Cmp.Lexicographic.{pointwise}
use Rattle.std.proofs.lemmas.Slice.Eq.{slice_eq-Decides}
use Rattle.pd_base.specs.declared.ids.PinRef.{PinRef}

-- whether two pins are one
abbrev pub is_one_pin : PinRef → PinRef → Bool
is_one_pin a b = eqb a.gate.0 b.gate.0 && eqb a.pin b.pin

pub one_pin_decided : (a b : PinRef) → Decides (is_one_pin a b) (a ≡ b)
one_pin_decided a b = (
  λ is.
      let both = and_parts (eqb a.gate.0 b.gate.0) (eqb a.pin b.pin) is in
      let gate = eqb-true a.gate.0 b.gate.0 both.0 in
      let pin = eqb-true a.pin b.pin both.1 in
      λ i. record { gate = record { 0 = gate i }; pin = pin i },
  λ same.
      ap₂ (λ x y. x && y) (eq-eqb a.gate.0 b.gate.0 (ap (λ (pin : PinRef). pin.gate.0) same))
      (eq-eqb a.pin b.pin (ap (λ (pin : PinRef). pin.pin) same)),
)

pub same_steps : (steps others : List PinRef) (result : Bool) → result ≡ pointwise is_one_pin steps others → Decides result (steps ≡ others)
same_steps = slice_eq-Decides one_pin_decided
