-- How long paths are under the delays of a delay file.
use Rattle.std.proofs.Common.{◌≤◌, ◌*◌, ℕ, Bool, true, false, cond, List, [], ◌∷◌, length, map, filter, sum_by, arith}
use Rattle.std.specs.List.{AllByRecursion}
use Rattle.std.proofs.lemmas.List.Sums.{sum_by-cons}
use Rattle.pd_base.specs.declared.fault.Direction.TheVariants.{Rise}
use Rattle.pd_base.specs.declared.ids.PinRef.{PinRef}
use Rattle.pd_base.specs.Route.{Route}
use Rattle.netlist.specs.Circuit.{Circuit, gate_line}
use Rattle.netlist.specs.Paths.{length_of, Connects, IsPath}
use Rattle.netlist.specs.Pins.{IsPinOn}
use Rattle.netlist.specs.Waves.{Delays}
use Rattle.delay_annotation.specs.declared.delays.TheConstants.{MOST_DELAY}
use Rattle.delay_annotation.specs.DelayFile.{delay_on, is_among, last_or, unit_delays, AreSettings, HasDelays, Row}
use Rattle.delay_annotation.proofs.Fields.{setting_within}

-- the last of some delays, none of which is above a bound; the type of a row's delays is delay_annotation's own, and has no name here
last_within : {S : Type 0} (delays_of : S → _) (test : S → Bool) (bound : ℕ) (none : _) (items : List S)
    → AllByRecursion (λ item. delay_on Rise (delays_of item) ≤ bound) items → delay_on Rise none ≤ bound
    → delay_on Rise (last_or none (map delays_of (filter test items))) ≤ bound
last_within delays_of test bound none [] each within = within
last_within delays_of test bound none (item ∷ items) each within =
    elim (test item) as (λ passes. delay_on Rise (last_or none (map delays_of (cond passes (item ∷ filter test items) (filter test items)))) ≤ bound) [
      | true ↦ last_within delays_of test bound (delays_of item) items each.1 each.0
      | false ↦ last_within delays_of test bound none items each.1 within
    ]

module _ (c : Circuit) where
  -- the settings of accepted rows have delays that a file may give; nor has the type of settings a name here
  each_within : (columns : _) (rows : List Row) (settings : _) → AreSettings c columns rows settings
      → AllByRecursion (λ setting. delay_on Rise setting.delays ≤ MOST_DELAY) settings
  each_within columns [] [] accepted = tt
  each_within columns [] (setting ∷ settings) accepted = absurd accepted
  each_within columns (row ∷ rows) [] accepted = absurd accepted
  each_within columns (row ∷ rows) (setting ∷ settings) accepted =
      ((setting_within c columns row setting accepted.0).0, each_within columns rows settings accepted.1)

  module _ (bytes : List ℕ) (delays : Delays) (has : HasDelays c bytes delays) where
    pin_within : (pin : PinRef) (line : ℕ) → IsPinOn c pin line → delays pin ≤ MOST_DELAY
    pin_within pin line on =
        omega (
          arith,
          has.each pin line on,
          last_within (λ setting. setting.delays) (λ setting. is_among setting.pins pin) MOST_DELAY unit_delays has.settings
              (each_within _ has.rows has.settings has.accepted) (omega arith),
        )

    -- the length of steps is that of so many greatest delays at most
    steps_within_delays : (line : ℕ) (steps : List PinRef) → Connects c line steps → sum_by delays steps ≤ length steps * MOST_DELAY
    steps_within_delays line [] connects = omega arith
    steps_within_delays line (step ∷ steps) connects =
        omega (
          arith,
          sum_by-cons delays step steps,
          pin_within step line connects.0,
          steps_within_delays (gate_line c step.gate.0) steps connects.1,
        )

    pub length_within : (path : Route) → IsPath c path → length_of delays path ≤ length path.steps * MOST_DELAY
    length_within path is = steps_within_delays path.source.0 path.steps is.prefix.connects
