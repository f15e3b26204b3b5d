-- The fields of a row that has three or four, and the pins and delays of an accepted row.
use Rattle.std.proofs.Common.{◌≡◌, ℕ, List, [], ◌∷◌, length, Some, arith}
use Rattle.csv.specs.Records.{field_at}
use Rattle.netlist.specs.Circuit.{Circuit}
use Rattle.delay_annotation.specs.Fields.{trimmed}
use Rattle.delay_annotation.specs.Rows.{IsDelay, IsSetting, MeansGates, MeansPins, SayDelays}
use Rattle.delay_annotation.specs.Rows.SayDelays.{one, two}
use Rattle.delay_annotation.specs.Rows.MeansPins.{all, of_gate, numbered, one as one_pin}
use Rattle.delay_annotation.specs.declared.setting.Columns.{Columns}
use Rattle.delay_annotation.specs.declared.setting.Columns.TheVariants as column
use Rattle.delay_annotation.specs.declared.setting.EdgeDelays.{EdgeDelays}
use Rattle.delay_annotation.specs.declared.setting.Gates.{Gates}
use Rattle.delay_annotation.specs.declared.setting.Pins.{Pins}
use Rattle.delay_annotation.specs.declared.setting.Setting.{Setting}
use Rattle.delay_annotation.specs.DelayFile.{Row}
use Rattle.delay_annotation.specs.LastRows.{AreOfCircuit, AreWithin}

-- where a row has three fields, these are all
pub three_are : (row : Row) (a b c : List ℕ) → length row ≡ 3 → Some a ≡ field_at row 0 → Some b ≡ field_at row 1
    → Some c ≡ field_at row 2 → row ≡ a ∷ b ∷ c ∷ []
unfolding field_at
three_are [] a b c long first second third = absurd (omega arith)
three_are (x ∷ []) a b c long first second third = absurd (omega arith)
three_are (x ∷ y ∷ []) a b c long first second third = absurd (omega arith)
three_are (x ∷ y ∷ z ∷ []) a b c long first second third =
    let e1 : x ≡ a = cc first in
    let e2 : y ≡ b = cc second in
    let e3 : z ≡ c = cc third in
    (λ i. e1 i ∷ e2 i ∷ e3 i ∷ [])
three_are (x ∷ y ∷ z ∷ w ∷ more) a b c long first second third = absurd (omega arith)

-- where a row has four fields, these are all
pub four_are : (row : Row) (a b c d : List ℕ) → length row ≡ 4 → Some a ≡ field_at row 0 → Some b ≡ field_at row 1
    → Some c ≡ field_at row 2 → Some d ≡ field_at row 3 → row ≡ a ∷ b ∷ c ∷ d ∷ []
unfolding field_at
four_are [] a b c d long first second third fourth = absurd (omega arith)
four_are (x ∷ []) a b c d long first second third fourth = absurd (omega arith)
four_are (x ∷ y ∷ []) a b c d long first second third fourth = absurd (omega arith)
four_are (x ∷ y ∷ z ∷ []) a b c d long first second third fourth = absurd (omega arith)
four_are (x ∷ y ∷ z ∷ w ∷ []) a b c d long first second third fourth =
    let e1 : x ≡ a = cc first in
    let e2 : y ≡ b = cc second in
    let e3 : z ≡ c = cc third in
    let e4 : w ≡ d = cc fourth in
    (λ i. e1 i ∷ e2 i ∷ e3 i ∷ e4 i ∷ [])
four_are (x ∷ y ∷ z ∷ w ∷ v ∷ more) a b c d long first second third fourth = absurd (omega arith)

-- the pins that are meant at gates of a circuit are some of the circuit
means_of_circuit : (c : Circuit) (gate_text pin_text : List ℕ) {meant : Gates} {pins : Pins} → MeansGates c gate_text meant
    → MeansPins c pin_text meant pins → AreOfCircuit c pins
means_of_circuit c gate_text pin_text means (all star) = tt
means_of_circuit c gate_text pin_text means (of_gate gate star) = means.in_circuit
means_of_circuit c gate_text pin_text means (numbered pin below) = below.below
means_of_circuit c gate_text pin_text means (one_pin gate pin below) = record { in_circuit = means.in_circuit; in_gate = below.below }

-- so are those of an accepted row
pub setting_of_circuit : (c : Circuit) (columns : Columns) (row : Row) (setting : Setting) → IsSetting c columns row setting → AreOfCircuit c setting.pins
setting_of_circuit c columns row setting is =
    means_of_circuit c (trimmed is.gate_field) (trimmed is.pin_field) is.place.means_gates is.place.means_pins

-- and its delays are not over the greatest
pub setting_within : (c : Circuit) (columns : Columns) (row : Row) (setting : Setting) → IsSetting c columns row setting
    → AreWithin setting.delays
setting_within c columns row setting is = by columns is.number_fields setting.delays is.delays
  where
    by : (columns : Columns) (numbers : List (List ℕ)) (delays : EdgeDelays) → SayDelays columns numbers delays → AreWithin delays
    by own numbers delays (one field delay are) = (are.within, are.within)
    by own numbers delays (two rises falls rise fall risen fallen) = (risen.within, fallen.within)

-- a field that is no delay says none, alone or before another or behind one
pub no_one_delay : (field : List ℕ) → ((number : ℕ) → ¬ IsDelay (trimmed field) number) → (delays : EdgeDelays)
    → ¬ SayDelays column.Delay (field ∷ []) delays
no_one_delay field none delays (one own delay is) = none delay is

pub no_rise_delay : (field other : List ℕ) → ((number : ℕ) → ¬ IsDelay (trimmed field) number) → (delays : EdgeDelays)
    → ¬ SayDelays column.RiseAndFall (field ∷ other ∷ []) delays
no_rise_delay field other none delays (two own more rise fall is falls) = none rise is

pub no_fall_delay : (other field : List ℕ) → ((number : ℕ) → ¬ IsDelay (trimmed field) number) → (delays : EdgeDelays)
    → ¬ SayDelays column.RiseAndFall (other ∷ field ∷ []) delays
no_fall_delay other field none delays (two more own rise fall rises is) = none fall is
