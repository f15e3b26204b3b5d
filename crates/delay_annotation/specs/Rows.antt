-- Rows of a delay file: what a row says in a circuit, and for which first reason it says nothing (this project's own format).
-- A row is the list of its fields as they stand in the file.
use Rattle.std.specs.Prelude.{◌≡◌, ◌≢◌, ⊤, ℕ, ◌<◌, ◌≤◌, List, [], ◌∷◌, length, map, codes}
use Rattle.pd_base.specs.declared.ids.GateId.{GateId}
use Rattle.netlist.specs.Circuit.{Circuit, gate_count, gate_line, pins_at}
use Rattle.netlist.specs.Names.{name_at}
use Rattle.netlist.specs.declared.limits.TheConstants.{MOST_FAN_IN}
use Rattle.delay_annotation.specs.declared.delays.TheConstants.{MOST_DELAY}
use Rattle.delay_annotation.specs.Fields.{SpellsNumber, star, trimmed}
use Rattle.delay_annotation.specs.declared.field.TheConstants.{MOST_PIN_DIGITS, MOST_NUMBER_DIGITS}
use Rattle.delay_annotation.specs.declared.setting.Columns.{Columns}
use Rattle.delay_annotation.specs.declared.setting.Columns.TheVariants as columns
use Rattle.delay_annotation.specs.declared.setting.EdgeDelays.{EdgeDelays}
use Rattle.delay_annotation.specs.declared.setting.Gates.{Gates}
use Rattle.delay_annotation.specs.declared.setting.Gates.TheVariants as gates
use Rattle.delay_annotation.specs.declared.setting.Pins.{Pins}
use Rattle.delay_annotation.specs.declared.setting.Pins.TheVariants as pins
use Rattle.delay_annotation.specs.declared.setting.RowFault.{RowFault}
use Rattle.delay_annotation.specs.declared.setting.RowFault.TheVariants as fault
use Rattle.delay_annotation.specs.declared.setting.Setting.{Setting}

-- the titles: which numbers stand behind gate and pin
abbrev pub titles : Columns → List (List ℕ)
titles columns.Delay = codes "gate" ∷ codes "pin" ∷ codes "delay" ∷ []
titles columns.RiseAndFall = codes "gate" ∷ codes "pin" ∷ codes "rise" ∷ codes "fall" ∷ []

-- the row is that of the titles
abbrev pub AreTitles : Columns → List (List ℕ) → Type 0
AreTitles columns row = map trimmed row ≡ titles columns

-- the text is the name of this gate, and not the star, which a gate may be called too
pub record NamesGate (c : Circuit) (text : List ℕ) (gate : ℕ) : Type 0 where
  pub no_star : text ≢ star
  pub in_circuit : gate < gate_count c
  pub name : name_at c (gate_line c gate) ≡ text

-- the gates that the text of a row's first field means: by the star all, by a name one
abbrev pub MeansGates : Circuit → List ℕ → Gates → Type 0
MeansGates c text gates.All = text ≡ star
MeansGates c text (gates.One gate) = NamesGate c text gate.0

-- a gate that is meant is one of the circuit
abbrev pub AreInCircuit : Circuit → Gates → Type 0
AreInCircuit c gates.All = ⊤
AreInCircuit c (gates.One gate) = gate.0 < gate_count c

-- the text is the number of a pin below this one
pub record IsPinBelow (limit : ℕ) (text : List ℕ) (pin : ℕ) : Type 0 where
  pub number : SpellsNumber MOST_PIN_DIGITS text pin
  pub below : pin < limit

-- The pins that the text of the second field means at these gates: by the star all, by a number that of each gate which has so
-- many pins. A number has to be one of a gate that is named; where all gates are meant, some gate might have it.
pub data MeansPins (c : Circuit) (text : List ℕ) : Gates → Pins → Type 0 where
  all : text ≡ star → MeansPins c text gates.All pins.All
  of_gate : (gate : GateId) → text ≡ star → MeansPins c text (gates.One gate) (pins.OfGate gate)
  numbered : (pin : ℕ) → IsPinBelow MOST_FAN_IN text pin → MeansPins c text gates.All (pins.Numbered pin)
  one : (gate : GateId) (pin : ℕ) → IsPinBelow (length (pins_at c gate.0)) text pin
      → MeansPins c text (gates.One gate) (pins.One (record { gate = gate; pin = pin }))

-- the text is this delay
pub record IsDelay (text : List ℕ) (delay : ℕ) : Type 0 where
  pub number : SpellsNumber MOST_NUMBER_DIGITS text delay
  pub within : delay ≤ MOST_DELAY

-- the fields behind gate and pin are these delays: one of a rise as of a fall, or one of each
pub data SayDelays : Columns → List (List ℕ) → EdgeDelays → Type 0 where
  one : (field : List ℕ) (delay : ℕ) → IsDelay (trimmed field) delay
      → SayDelays columns.Delay (field ∷ []) (record { rise = delay; fall = delay })
  two : (rise_field fall_field : List ℕ) (rise fall : ℕ) → IsDelay (trimmed rise_field) rise → IsDelay (trimmed fall_field) fall
      → SayDelays columns.RiseAndFall (rise_field ∷ fall_field ∷ []) (record { rise = rise; fall = fall })

-- the row has these fields, as many as there are titles
pub record HasFields (columns : Columns) (row : List (List ℕ)) (gate pin : List ℕ) (numbers : List (List ℕ)) : Type 0 where
  pub fields : row ≡ gate ∷ pin ∷ numbers
  pub many : length row ≡ length (titles columns)

-- the first two fields of a row mean these pins
pub record IsPlace (c : Circuit) (gate pin : List ℕ) (pins : Pins) : Type 0 where
  pub gates : Gates
  pub means_gates : MeansGates c (trimmed gate) gates
  pub means_pins : MeansPins c (trimmed pin) gates pins

-- they mean no pins, for the first reason that applies: the first means no gates; the second means no pins there
pub data RefusesPlace (c : Circuit) (gate pin : List ℕ) : RowFault → Type 0 where
  no_gates : ((meant : Gates) → ¬ MeansGates c (trimmed gate) meant) → RefusesPlace c gate pin fault.UnknownGate
  no_pins : (meant : Gates) → MeansGates c (trimmed gate) meant → ((pins : Pins) → ¬ MeansPins c (trimmed pin) meant pins)
      → RefusesPlace c gate pin fault.BadPin

-- the row is accepted, and says this
pub record IsSetting (c : Circuit) (columns : Columns) (row : List (List ℕ)) (setting : Setting) : Type 0 where
  pub gate_field : List ℕ
  pub pin_field : List ℕ
  pub number_fields : List (List ℕ)
  pub fields : HasFields columns row gate_field pin_field number_fields
  pub place : IsPlace c gate_field pin_field setting.pins
  pub delays : SayDelays columns number_fields setting.delays

-- The row is refused, for the first reason that applies: it has not as many fields as the titles; the first two mean no pins; those
-- behind them are no delays.
pub data RefusesRow (c : Circuit) (columns : Columns) (row : List (List ℕ)) : RowFault → Type 0 where
  other_count : length row ≢ length (titles columns) → RefusesRow c columns row fault.Fields
  no_place : (gate pin : List ℕ) (numbers : List (List ℕ)) (why : RowFault) → HasFields columns row gate pin numbers
      → RefusesPlace c gate pin why → RefusesRow c columns row why
  no_delays : (gate pin : List ℕ) (numbers : List (List ℕ)) → HasFields columns row gate pin numbers
      → (pins : Pins) → IsPlace c gate pin pins → ((delays : EdgeDelays) → ¬ SayDelays columns numbers delays)
      → RefusesRow c columns row fault.BadNumber
