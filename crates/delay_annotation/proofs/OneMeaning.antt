-- A row says one thing at most, or is refused for one reason, and never both.
use Rattle.std.proofs.Common.{◌≡◌, ◌≢◌, ⊎_elim, ℕ, ◌<◌, List, [], ◌∷◌, refl, sym, ap, ap₂, subst, ◌∙◌, arith}
use Rattle.std.proofs.lemmas.Bool.{cases_lt}
use Rattle.netlist.specs.Circuit.{Circuit, gate_count, gate_line}
use Rattle.netlist.specs.Lawful.{IsCircuit}
use Rattle.netlist.specs.Names.{name_at}
use Rattle.netlist.proofs.CircuitLines.{line_names-length}
use Rattle.delay_annotation.specs.Fields.{SpellsNumber, star, trimmed}
use Rattle.delay_annotation.specs.Rows.{HasFields, IsPlace, IsSetting, MeansGates, MeansPins, NamesGate, RefusesPlace, RefusesRow, SayDelays}
use Rattle.delay_annotation.specs.Rows.MeansPins.{all, of_gate, numbered, one}
use Rattle.delay_annotation.specs.Rows.RefusesPlace.{no_gates, no_pins}
use Rattle.delay_annotation.specs.Rows.RefusesRow.{other_count, no_place, no_delays}
use Rattle.delay_annotation.specs.Rows.SayDelays.{one as one_delay, two as two_delays}
use Rattle.delay_annotation.specs.declared.setting.Columns.{Columns}
use Rattle.delay_annotation.specs.declared.setting.EdgeDelays.{EdgeDelays}
use Rattle.delay_annotation.specs.declared.setting.Gates.{Gates}
use Rattle.delay_annotation.specs.declared.setting.Gates.TheVariants as gates
use Rattle.delay_annotation.specs.declared.setting.Pins.{Pins}
use Rattle.delay_annotation.specs.declared.setting.Pins.TheVariants as pins
use Rattle.delay_annotation.specs.declared.setting.RowFault.{RowFault}
use Rattle.delay_annotation.specs.declared.setting.Setting.{Setting}

-- a text spells one number at most
number_once : (most : ℕ) (text : List ℕ) (a b : ℕ) → SpellsNumber most text a → SpellsNumber most text b → a ≡ b
number_once most text a b is other = sym is.value ∙ other.value

-- the star is no number
star_no_number : (most : ℕ) (text : List ℕ) (number : ℕ) → text ≡ star → ¬ SpellsNumber most text number
star_no_number most text number same is =
    let digits = subst (λ t. SpellsNumber most t number) same is in
    absurd (omega (arith, digits.digits.0))

-- the fields of a row
fields_once : (gate pin : List ℕ) (numbers : List (List ℕ)) (gate' pin' : List ℕ) (numbers' : List (List ℕ))
    → gate ∷ pin ∷ numbers ≡ gate' ∷ pin' ∷ numbers' → (gate ≡ gate') × (pin ≡ pin') × (numbers ≡ numbers')
fields_once gate pin numbers gate' pin' numbers' same = (cc same, cc same, cc same)

-- fields say the same delays each time
says_once : {columns : Columns} {numbers : List (List ℕ)} {a b : EdgeDelays} → SayDelays columns numbers a → SayDelays columns numbers b
    → a ≡ b
says_once (one_delay field a is) (one_delay _ b other) =
    ap (λ delay. record { rise = delay; fall = delay }) (number_once _ (trimmed field) a b is.number other.number)
says_once (two_delays rises falls a b is_a is_b) (two_delays _ _ a' b' other_a other_b) =
    ap₂ (λ rise fall. record { rise = rise; fall = fall }) (number_once _ (trimmed rises) a a' is_a.number other_a.number)
    (number_once _ (trimmed falls) b b' is_b.number other_b.number)

module _ (c : Circuit) (circuit : IsCircuit c) where
  -- a name is that of one gate at most
  gate_once : (text : List ℕ) (a b : ℕ) → NamesGate c text a → NamesGate c text b → a ≡ b
  gate_once text a b names other =
      ⊎_elim
      (λ less. absurd (differ a b less other.in_circuit (names.name ∙ sym other.name)))
      (λ from. ⊎_elim
      (λ greater. absurd (differ b a greater names.in_circuit (other.name ∙ sym names.name)))
      (λ upto. omega arith)
      (cases_lt b a))
      (cases_lt a b)
    where
      differ : (gate later : ℕ) → gate < later → later < gate_count c
          → name_at c (gate_line c gate) ≢ name_at c (gate_line c later)
      differ gate later less within =
          circuit.names_differ (gate_line c gate) (gate_line c later) [] (omega arith) (omega (arith, line_names-length c))

  -- a text means the same gates each time
  gates_once : (text : List ℕ) (a b : Gates) → MeansGates c text a → MeansGates c text b → a ≡ b
  gates_once text gates.All gates.All is other = refl
  gates_once text gates.All (gates.One gate) is other = absurd (other.no_star is)
  gates_once text (gates.One gate) gates.All is other = absurd (is.no_star other)
  gates_once text (gates.One a) (gates.One b) is other =
      let same = gate_once text a.0 b.0 is other in (λ i. gates.One (record { 0 = same i }))

  -- and the same pins of them
  pins_once : (text : List ℕ) {meant : Gates} {a b : Pins} → MeansPins c text meant a → MeansPins c text meant b → a ≡ b
  pins_once text (all is) (all other) = refl
  pins_once text (all is) (numbered pin below) = absurd (star_no_number _ text pin is below.number)
  pins_once text (numbered pin below) (all is) = absurd (star_no_number _ text pin is below.number)
  pins_once text (numbered a is) (numbered b other) = ap pins.Numbered (number_once _ text a b is.number other.number)
  pins_once text (of_gate gate is) (of_gate _ other) = refl
  pins_once text (of_gate gate is) (one _ pin below) = absurd (star_no_number _ text pin is below.number)
  pins_once text (one gate pin below) (of_gate _ is) = absurd (star_no_number _ text pin is below.number)
  pins_once text (one gate a is) (one _ b other) =
      ap (λ pin. pins.One (record { gate = gate; pin = pin })) (number_once _ text a b is.number other.number)

  -- fields mean the same pins each time
  place_once : (gate pin : List ℕ) (a b : Pins) → IsPlace c gate pin a → IsPlace c gate pin b → a ≡ b
  place_once gate pin a b is other =
      let meant = gates_once (trimmed gate) is.gates other.gates is.means_gates other.means_gates in
      pins_once (trimmed pin) is.means_pins (subst (λ g. MeansPins c (trimmed pin) g b) (sym meant) other.means_pins)

  -- fields that mean pins aren't refused
  place_not_refused : (gate pin : List ℕ) (pins : Pins) {why : RowFault} → IsPlace c gate pin pins → ¬ RefusesPlace c gate pin why
  place_not_refused gate pin pins is (no_gates none) = none is.gates is.means_gates
  place_not_refused gate pin pins is (no_pins meant means none) =
      none pins (subst (λ g. MeansPins c (trimmed pin) g pins)
      (gates_once (trimmed gate) is.gates meant is.means_gates means) is.means_pins)

  -- and are refused for one reason at most
  place_refused_once : (gate pin : List ℕ) {a b : RowFault} → RefusesPlace c gate pin a → RefusesPlace c gate pin b → a ≡ b
  place_refused_once gate pin (no_gates none) (no_gates other) = refl
  place_refused_once gate pin (no_gates none) (no_pins meant means other) = absurd (none meant means)
  place_refused_once gate pin (no_pins meant means none) (no_gates other) = absurd (other meant means)
  place_refused_once gate pin (no_pins meant means none) (no_pins meant' means' other) = refl

  module _ (columns : Columns) (row : List (List ℕ)) (gate pin : List ℕ) (numbers : List (List ℕ)) (gate' pin' : List ℕ)
      (numbers' : List (List ℕ)) (has : HasFields columns row gate pin numbers) (has' : HasFields columns row gate' pin' numbers') where
    -- a row that is split again has the same fields
    split_again : (gate ≡ gate') × (pin ≡ pin') × (numbers ≡ numbers')
    split_again = fields_once gate pin numbers gate' pin' numbers' (sym has.fields ∙ has'.fields)

    -- and its first two mean what they meant
    place_again : (pins : Pins) → IsPlace c gate' pin' pins → IsPlace c gate pin pins
    place_again pins is =
        subst (λ field. IsPlace c field pin pins) (sym split_again.0)
        (subst (λ field. IsPlace c gate' field pins) (sym split_again.1) is)

    -- or are refused as they were
    refused_again : (why : RowFault) → RefusesPlace c gate' pin' why → RefusesPlace c gate pin why
    refused_again why refuses =
        subst (λ field. RefusesPlace c field pin why) (sym split_again.0)
        (subst (λ field. RefusesPlace c gate' field why) (sym split_again.1) refuses)

    -- those behind them say what they said
    said_again : (delays : EdgeDelays) → SayDelays columns numbers' delays → SayDelays columns numbers delays
    said_again delays says = subst (λ fields. SayDelays columns fields delays) (sym split_again.2) says

module _ (c : Circuit) (columns : Columns) (circuit : IsCircuit c) where
  -- a row is accepted as one setting at most
  pub setting_once : (row : List (List ℕ)) (a b : Setting) → IsSetting c columns row a → IsSetting c columns row b → a ≡ b
  setting_once row a b is other =
      let pins = place_once c circuit is.gate_field is.pin_field a.pins b.pins is.place
      (place_again c circuit columns row _ _ _ _ _ _ is.fields other.fields b.pins other.place) in
      let delays = says_once is.delays (said_again c circuit columns row _ _ _ _ _ _ is.fields other.fields b.delays other.delays) in
      (λ i. record { pins = pins i; delays = delays i })

  -- an accepted row is not refused
  pub accepted_not_refused : (row : List (List ℕ)) (setting : Setting) {why : RowFault} → IsSetting c columns row setting
      → ¬ RefusesRow c columns row why
  accepted_not_refused row setting is (other_count other) = other is.fields.many
  accepted_not_refused row setting is (no_place g p n why has refuses) =
      place_not_refused c circuit is.gate_field is.pin_field setting.pins is.place
      (refused_again c circuit columns row _ _ _ g p n is.fields has why refuses)
  accepted_not_refused row setting is (no_delays g p n has pins place none) =
      none setting.delays (said_again c circuit columns row g p n _ _ _ has is.fields setting.delays is.delays)

  -- a row is refused for one reason at most
  pub refused_once : (row : List (List ℕ)) {a b : RowFault} → RefusesRow c columns row a → RefusesRow c columns row b → a ≡ b
  refused_once row (other_count other) (other_count more) = refl
  refused_once row (other_count other) (no_place g p n why has refuses) = absurd (other has.many)
  refused_once row (other_count other) (no_delays g p n has pins place none) = absurd (other has.many)
  refused_once row (no_place g p n why has refuses) (other_count other) = absurd (other has.many)
  refused_once row (no_place g p n why has refuses) (no_place g' p' n' why' has' refuses') =
      place_refused_once c circuit g p refuses (refused_again c circuit columns row g p n g' p' n' has has' why' refuses')
  refused_once row (no_place g p n why has refuses) (no_delays g' p' n' has' pins place none) =
      absurd (place_not_refused c circuit g p pins (place_again c circuit columns row g p n g' p' n' has has' pins place) refuses)
  refused_once row (no_delays g p n has pins place none) (other_count other) = absurd (other has.many)
  refused_once row (no_delays g p n has pins place none) (no_place g' p' n' why has' refuses) =
      absurd (place_not_refused c circuit g' p' pins (place_again c circuit columns row g' p' n' g p n has' has pins place) refuses)
  refused_once row (no_delays g p n has pins place none) (no_delays g' p' n' has' pins' place' none') = refl
