-- Pins that are settled: pin by pin at a gate, then gate by gate.
use Rattle.std.proofs.Common.{◌≡◌, ⊎_elim, ℕ, ◌+◌, ◌<◌, ◌≤◌, List, [], ◌∷◌, length, refl, sym, ap, subst, ◌∙◌, arith}
use Rattle.std.proofs.lemmas.Bool.{cases_eq}
use Rattle.pd_base.specs.declared.fault.Direction.{Direction}
use Rattle.pd_base.specs.declared.ids.PinRef.{PinRef}
use Rattle.netlist.specs.Circuit.{Circuit, gate_count, kind_at, pins_at}
use Rattle.netlist.specs.Lawful.{IsCircuit, IsFanIn}
use Rattle.netlist.specs.declared.kind.GateKind.{GateKind}
use Rattle.netlist.specs.declared.kind.GateKind.TheVariants.{And, Nand, Or, Nor, Xor, Xnor, Not, Buff}
use Rattle.netlist.specs.declared.limits.TheConstants.{MOST_FAN_IN}
use Rattle.netlist.proofs.PinRow.{pin_on_line}
use Rattle.delay_annotation.specs.Annotation.{SetsDelay, delays_of}
use Rattle.delay_annotation.specs.DelayFile.{AreAllRows, HasDelaysOn, Row, delay_on}
use Rattle.delay_annotation.specs.declared.setting.Columns.{Columns}
use Rattle.delay_annotation.specs.LastRows.{last_for}
use Rattle.delay_annotation.specs.Settling.{GatesHaveLastDelays, HasLastDelays, SettlesGate, SettlesPins}
use Rattle.delay_annotation.specs.Taking.{AreTaken, IsFileTaken}
use Rattle.delay_annotation.specs.declared.last.LastRows.{LastRows}
use Rattle.delay_annotation.proofs.Forms.{last_for_pin}

-- a gate has no more pins than any may have
few_pins : (kind : GateKind) (count : ℕ) → IsFanIn kind count → count ≤ MOST_FAN_IN
few_pins And count is = is.few
few_pins Nand count is = is.few
few_pins Or count is = is.few
few_pins Nor count is = is.few
few_pins Xor count is = is.few
few_pins Xnor count is = is.few
few_pins Not count is = omega arith
few_pins Buff count is = omega arith

pub pins_fit : (c : Circuit) → IsCircuit c → (gate : ℕ) → gate < gate_count c → length (pins_at c gate) ≤ MOST_FAN_IN
pins_fit c circuit gate within = few_pins (kind_at c gate) (length (pins_at c gate)) (circuit.fan_in gate within)

-- pins are the same where their gates and numbers are
same_pin : (a b : PinRef) → a.gate.0 ≡ b.gate.0 → a.pin ≡ b.pin → a ≡ b
same_pin a b gates numbers = λ i. record { gate = record { 0 = gates i }; pin = numbers i }

module _ (c : Circuit) (kept : LastRows) (direction : Direction) where
  -- before the first pin none is settled
  pub none_settled : (gate : ℕ) (delays : List ℕ) → SettlesPins c kept direction gate 0 delays delays
  none_settled gate delays = record {
    own = λ pin is at below. absurd (omega arith);
    others = λ pin is other. refl;
  }

  -- one pin more is
  pub pin_settled : (own : PinRef) (delay : ℕ) (old delays new : List ℕ) → delay ≡ delay_on direction (last_for c kept own).delays
      → SettlesPins c kept direction own.gate.0 own.pin old delays → SetsDelay c delays new own delay
      → SettlesPins c kept direction own.gate.0 (own.pin + 1) old new
  pin_settled own delay old delays new is_last settles changes = record {
    own = λ pin is at below. ⊎_elim
        (λ same. let this = same_pin pin own at same in
        subst (λ p. delays_of c new p ≡ delay_on direction (last_for c kept p).delays) (sym this) (changes.changed ∙ is_last))
        (λ differs. changes.others pin is (λ same. differs (ap (λ (p : PinRef). p.pin) same))
        ∙ settles.own pin is at (omega arith))
        (cases_eq pin.pin own.pin);
    others = λ pin is other. changes.others pin is (λ same. other (ap (λ (p : PinRef). p.gate.0) same))
        ∙ settles.others pin is other;
  }

  -- before the first gate none is settled
  pub no_gate_settled : (delays : List ℕ) → GatesHaveLastDelays c kept direction 0 delays
  no_gate_settled delays pin is below = absurd (omega arith)

  -- one gate more is
  pub gate_settled : (gate : ℕ) (old new : List ℕ) → GatesHaveLastDelays c kept direction gate old → SettlesGate c kept direction gate old new
      → GatesHaveLastDelays c kept direction (gate + 1) new
  gate_settled gate old new settled settles pin is below =
      ⊎_elim
      (λ same. settles.own pin is same (subst (λ g. pin.pin < length (pins_at c g)) same is.in_gate))
      (λ differs. settles.others pin is differs ∙ settled pin is (omega arith))
      (cases_eq pin.gate.0 gate)

  -- after the last gate each pin has the delay of the last setting for it
  pub all_settled : (delays : List ℕ) → IsCircuit c → GatesHaveLastDelays c kept direction (gate_count c) delays → HasLastDelays c kept direction delays
  all_settled delays circuit settled settings keeps pin is =
      let few = pins_fit c circuit pin.gate.0 is.in_circuit in
      settled pin is is.in_circuit ∙ ap (delay_on direction) (last_for_pin c kept settings pin keeps is (omega (arith, few, is.in_gate)))

  -- so where all rows were taken these are the delays of the file
  pub delays_had : (columns : Columns) (bytes : List ℕ) (delays : List ℕ) → IsFileTaken c columns bytes kept → HasLastDelays c kept direction delays
      → HasDelaysOn c columns direction bytes (delays_of c delays)
  delays_had columns bytes delays taken last = by taken.rows taken.all_rows taken.some taken.taken
    where
      by : (rows : List Row) → AreAllRows bytes rows → 0 < length rows → AreTaken c columns rows kept → HasDelaysOn c columns direction bytes (delays_of c delays)
      by [] all some rows_taken = absurd (omega arith)
      by (titles ∷ rows) all some (are_titles, settings, accepted, keeps) = record {
        titles = titles;
        rows = rows;
        settings = settings;
        all_rows = all;
        are_titles = are_titles;
        accepted = accepted;
        each = λ pin line on. last settings keeps pin (pin_on_line c pin line on);
      }
