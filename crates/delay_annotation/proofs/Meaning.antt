-- What the text of a second field means, where it is known which gates the first means; and each text means at most one thing.
use Rattle.std.proofs.Common.{◌≡◌, ◌≢◌, ℕ, List, length, sym, subst}
use Rattle.pd_base.specs.declared.ids.GateId.{GateId}
use Rattle.netlist.specs.Circuit.{Circuit, pins_at}
use Rattle.netlist.specs.declared.limits.TheConstants.{MOST_FAN_IN}
use Rattle.delay_annotation.specs.Fields.{star}
use Rattle.delay_annotation.specs.Rows.{IsPinBelow, MeansPins}
use Rattle.delay_annotation.specs.Rows.MeansPins.{all, of_gate, numbered, one}
use Rattle.delay_annotation.specs.declared.setting.Gates.{Gates}
use Rattle.delay_annotation.specs.declared.setting.Gates.TheVariants as gates
use Rattle.delay_annotation.specs.declared.setting.Pins.{Pins}
use Rattle.delay_annotation.specs.declared.setting.Pins.TheVariants as pins

module _ (c : Circuit) (text : List ℕ) where
  -- a star, where all gates are meant
  pub means_all : (meant : Gates) → meant ≡ gates.All → text ≡ star → MeansPins c text meant pins.All
  means_all meant is star = subst (λ g. MeansPins c text g pins.All) (sym is) (all star)

  -- a star, where one gate is
  pub means_of_gate : (meant : Gates) (gate : GateId) → meant ≡ gates.One gate → text ≡ star
      → MeansPins c text meant (pins.OfGate gate)
  means_of_gate meant gate is star = subst (λ g. MeansPins c text g (pins.OfGate gate)) (sym is) (of_gate gate star)

  -- a number, where all gates are
  pub means_numbered : (meant : Gates) (pin : ℕ) → meant ≡ gates.All → IsPinBelow MOST_FAN_IN text pin
      → MeansPins c text meant (pins.Numbered pin)
  means_numbered meant pin is below = subst (λ g. MeansPins c text g (pins.Numbered pin)) (sym is) (numbered pin below)

  -- a number, where one gate is
  pub means_one : (meant : Gates) (gate : GateId) (limit pin : ℕ) → meant ≡ gates.One gate → limit ≡ length (pins_at c gate.0)
      → IsPinBelow limit text pin → MeansPins c text meant (pins.One (record { gate = gate; pin = pin }))
  means_one meant gate limit pin is at below =
      subst (λ g. MeansPins c text g (pins.One (record { gate = gate; pin = pin }))) (sym is)
      (one gate pin (subst (λ most. IsPinBelow most text pin) at below))

  -- no pins, where one gate is meant, and the text is neither the star nor the number of a pin there
  no_pins_at : (gate : GateId) → text ≢ star → ((pin : ℕ) → ¬ IsPinBelow (length (pins_at c gate.0)) text pin)
      → (pins : Pins) → MeansPins c text (gates.One gate) pins → ⊥
  no_pins_at gate no_star no_pin p (of_gate g star) = no_star star
  no_pins_at gate no_star no_pin p (one g pin below) = no_pin pin below

  -- the same, by the gates that are meant
  pub means_no_pins : (meant : Gates) (gate : GateId) (limit : ℕ) → meant ≡ gates.One gate → limit ≡ length (pins_at c gate.0)
      → text ≢ star → ((pin : ℕ) → ¬ IsPinBelow limit text pin) → (pins : Pins) → ¬ MeansPins c text meant pins
  means_no_pins meant gate limit is at no_star no_pin pins means =
      no_pins_at gate no_star (λ pin below. no_pin pin (subst (λ most. IsPinBelow most text pin) (sym at) below)) pins
      (subst (λ g. MeansPins c text g pins) is means)
