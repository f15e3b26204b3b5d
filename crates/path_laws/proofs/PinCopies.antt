-- The two laws of a pin's copy of a wave on which all that is said of waves rests, and that a delay has them: a
-- constant wave has a constant copy; a wave that lacks a value below a time has a copy that lacks it for as long again
-- as the pin takes.
use Rattle.std.proofs.Common.{◌≡◌, ℕ, ℤ, pos, ◌+ℤ◌, ◌-ℤ◌, ◌<ℤ◌, Bool, not, arith}
use Rattle.std.proofs.lemmas.Int.{ints}
use Rattle.pd_base.specs.declared.ids.PinRef.{PinRef}
use Rattle.netlist.specs.Waves.{Delays, Wave, PinCopy, delay_copy}

-- a wave that is constant has a copy that is constant
abbrev pub KeepsConstants : PinCopy → Type 0
KeepsConstants copy =
    (pin : PinRef) (wave : Wave) (bit : Bool) → ((time : ℤ) → wave time ≡ bit) → (time : ℤ) → copy pin wave time ≡ bit

-- what a pin takes to show a value, in delay units
abbrev pub Shift : Type 0
Shift = PinRef → Bool → ℕ

-- a wave that has the other value below a time has a copy that has it below that time and the pin's shift
abbrev pub Postpones : PinCopy → Shift → Type 0
Postpones copy shift =
    (pin : PinRef) (wave : Wave) (bit : Bool) (bound : ℤ) → ((time : ℤ) → time <ℤ bound → wave time ≡ not bit)
    → (time : ℤ) → time <ℤ (bound +ℤ pos (shift pin bit)) → copy pin wave time ≡ not bit

-- a delay copies a constant wave to a constant one
pub delay_copy-keeps_constants : (delays : Delays) → KeepsConstants (delay_copy delays)
delay_copy-keeps_constants delays pin wave bit constant time = constant (time -ℤ pos (delays pin))

-- a delay postpones a wave by itself
pub delay_copy-postpones : (delays : Delays) → Postpones (delay_copy delays) (λ pin bit. delays pin)
delay_copy-postpones delays pin wave bit bound before time within = before (time -ℤ pos (delays pin)) (omega (arith, ints))
