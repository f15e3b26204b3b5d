-- Delay files: which delays a file gives the pins of a circuit, and for which first row it gives none (this project's own
-- format). The rows are the records that csv reads, so blank lines are skipped and not counted.
use Rattle.std.specs.Prelude.{◌≡◌, ⊤, ℕ, ◌+◌, ◌==◌, ◌&&◌, Bool, true, false, List, [], ◌∷◌, ◌++◌, length, map, filter}
use Rattle.pd_base.specs.Memory.{out_of_memory}
use Rattle.csv.specs.Reading.{AreRecords, Reached, default_config, strip_bom}
use Rattle.csv.specs.declared.parser.State.{State}
use Rattle.csv.specs.declared.parser.State.TheVariants as state
use Rattle.pd_base.specs.declared.fault.Direction.{Direction}
use Rattle.pd_base.specs.declared.fault.Direction.TheVariants.{Rise, Fall}
use Rattle.pd_base.specs.declared.ids.PinRef.{PinRef}
use Rattle.netlist.specs.Circuit.{Circuit}
use Rattle.netlist.specs.Pins.{IsPinOn}
use Rattle.netlist.specs.Waves.{Delays}
use Rattle.delay_annotation.specs.declared.delays.TheConstants.{UNIT_DELAY}
use Rattle.delay_annotation.specs.Rows.{AreTitles, IsSetting, RefusesRow}
use Rattle.delay_annotation.specs.declared.setting.Columns.{Columns}
use Rattle.delay_annotation.specs.declared.setting.Columns.TheVariants as columns
use Rattle.delay_annotation.specs.declared.setting.EdgeDelays.{EdgeDelays}
use Rattle.delay_annotation.specs.declared.setting.Pins.{Pins}
use Rattle.delay_annotation.specs.declared.setting.Pins.TheVariants as pins
use Rattle.delay_annotation.specs.declared.setting.RowFault.{RowFault}
use Rattle.delay_annotation.specs.declared.setting.RowFault.TheVariants as row_fault
use Rattle.delay_annotation.specs.declared.setting.Setting.{Setting}
use Rattle.delay_annotation.specs.declared.fault.DelayFault.{DelayFault}
use Rattle.delay_annotation.specs.declared.fault.DelayFault.TheVariants as fault

-- a row: its fields
abbrev pub Row : Type 0
Row = List (List ℕ)

-- these are the first rows of the file
abbrev pub AreFirstRows : List ℕ → List Row → Type 0
AreFirstRows bytes rows =
    (after : State) × (rest : List ℕ) × Reached default_config state.StartRecord (strip_bom bytes) rows after rest

-- these are all rows of the file
abbrev pub AreAllRows : List ℕ → List Row → Type 0
AreAllRows bytes rows = AreRecords default_config state.StartRecord (strip_bom bytes) rows

-- whether the pin is one of these
abbrev pub is_among : Pins → PinRef → Bool
is_among pins.All pin = true
is_among (pins.OfGate gate) pin = pin.gate.0 == gate.0
is_among (pins.Numbered number) pin = pin.pin == number
is_among (pins.One own) pin = (pin.gate.0 == own.gate.0) && (pin.pin == own.pin)

-- what a pin has that no row means: the delay 1
abbrev pub unit_delays : EdgeDelays
unit_delays = record { rise = UNIT_DELAY; fall = UNIT_DELAY }

-- what a pin takes to show a rise of its line, or a fall
abbrev pub delay_on : Direction → EdgeDelays → ℕ
delay_on Rise delays = delays.rise
delay_on Fall delays = delays.fall

-- the delays that these settings give a pin, in order
abbrev pub delays_given : List Setting → PinRef → List EdgeDelays
delays_given settings pin = map (λ setting. setting.delays) (filter (λ setting. is_among setting.pins pin) settings)

-- the last item of a list, or this one where there is none
abbrev pub last_or : EdgeDelays → List EdgeDelays → EdgeDelays
last_or none [] = none
last_or none (item ∷ items) = last_or item items

-- the delays of a pin by these settings: those of the last one for it, and 1 where there is none
abbrev pub delays_by : List Setting → PinRef → EdgeDelays
delays_by settings pin = last_or unit_delays (delays_given settings pin)

-- each of the rows is accepted, and says what stands at its place
abbrev pub AreSettings : Circuit → Columns → List Row → List Setting → Type 0
AreSettings c columns [] [] = ⊤
AreSettings c columns [] (setting ∷ settings) = ⊥
AreSettings c columns (row ∷ rows) [] = ⊥
AreSettings c columns (row ∷ rows) (setting ∷ settings) = IsSetting c columns row setting × AreSettings c columns rows settings

-- The file has these delays of all pins for rises, or for falls: it has the titles, and accepted rows behind them, and each pin that
-- reads a line has the delay of the last row for it.
pub record HasDelaysOn (c : Circuit) (columns : Columns) (direction : Direction) (bytes : List ℕ) (delays : Delays) : Type 0 where
  pub titles : Row
  pub rows : List Row
  pub settings : List Setting
  pub all_rows : AreAllRows bytes (titles ∷ rows)
  pub are_titles : AreTitles columns titles
  pub accepted : AreSettings c columns rows settings
  pub each : (pin : PinRef) (line : ℕ) → IsPinOn c pin line → delays pin ≡ delay_on direction (delays_by settings pin)

-- the file has one delay for each pin, and these are the delays: those of rises, which are those of falls
abbrev pub HasDelays : Circuit → List ℕ → Delays → Type 0
HasDelays c bytes delays = HasDelaysOn c columns.Delay Rise bytes delays

-- the file has a rise and a fall delay for each pin, and these are the delays
abbrev pub HasRiseFall : Circuit → List ℕ → (PinRef → Bool → ℕ) → Type 0
HasRiseFall c bytes delays =
    HasDelaysOn c columns.RiseAndFall Rise bytes (λ pin. delays pin true)
    × HasDelaysOn c columns.RiseAndFall Fall bytes (λ pin. delays pin false)

-- the rows pass: there are none, or the titles and accepted rows behind them
abbrev pub ArePassed : Circuit → Columns → List Row → Type 0
ArePassed c columns [] = ⊤
ArePassed c columns (titles ∷ rows) = AreTitles columns titles × (settings : List Setting) × AreSettings c columns rows settings

-- the fault of a row, with the row's number
abbrev pub at_row : RowFault → ℕ → DelayFault
at_row row_fault.Fields number = fault.Fields number
at_row row_fault.UnknownGate number = fault.UnknownGate number
at_row row_fault.BadPin number = fault.BadPin number
at_row row_fault.BadNumber number = fault.BadNumber number

-- why the row behind these is refused: the first row is not that of the titles; a later one has a fault, and its number is one
-- more than there are rows before it
abbrev pub RefusesNext : Circuit → Columns → List Row → Row → DelayFault → Type 0
RefusesNext c columns [] row why = (why ≡ fault.Header) × ¬ AreTitles columns row
RefusesNext c columns (titles ∷ rows) row why =
    (own : RowFault) × RefusesRow c columns row own × (why ≡ at_row own (length (titles ∷ rows) + 1))

-- Why the file is refused: it has no row; the rows before some row pass and this one is refused; or, with no claim on the
-- file, memory ran out.
pub data RefusesFile (c : Circuit) (columns : Columns) (bytes : List ℕ) (why : DelayFault) : Type 0 where
  no_row : AreAllRows bytes [] → why ≡ fault.Header → RefusesFile c columns bytes why
  row_refused : (before : List Row) (row : Row) → AreFirstRows bytes (before ++ row ∷ []) → ArePassed c columns before
      → RefusesNext c columns before row why → RefusesFile c columns bytes why
  no_memory : why ≡ fault.NoMemory out_of_memory → RefusesFile c columns bytes why

-- why a file with one delay for each pin is refused
abbrev pub RefusesDelays : Circuit → List ℕ → DelayFault → Type 0
RefusesDelays c bytes why = RefusesFile c columns.Delay bytes why

-- why a file with two is
abbrev pub RefusesRiseFall : Circuit → List ℕ → DelayFault → Type 0
RefusesRiseFall c bytes why = RefusesFile c columns.RiseAndFall bytes why
