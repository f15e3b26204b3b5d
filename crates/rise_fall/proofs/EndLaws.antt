-- A wave that has settled is seen to have, once the longer of the two delays has passed; so all waves are bounded.
use Rattle.std.proofs.Common.{◌≡◌, ℕ, ◌≤◌, max, ℤ, pos, ◌-ℤ◌, Bool, true, false, arith, ⊎_elim}
use Rattle.std.proofs.lemmas.Int.{ints}
use Rattle.std.proofs.lemmas.Bool.{cases_lt}
use Rattle.pd_base.specs.declared.ids.PinRef.{PinRef}
use Rattle.pd_base.specs.Pair.{Vectors}
use Rattle.netlist.specs.Circuit.{Circuit}
use Rattle.netlist.specs.Lawful.{IsCircuit}
use Rattle.netlist.specs.Values.{value}
use Rattle.netlist.specs.Waves.{Delays, Wave}
use Rattle.rise_fall.specs.Waves.{RiseFallDelays, rise_fall_copy, rise_fall_wave, risen_fallen}
use Rattle.rise_fall.proofs.WindowLaws.{fall_is_slow, rise_is_slow, not_fallen, not_risen}
use Rattle.delay_annotation.specs.declared.delays.TheConstants.{MOST_DELAY}
use Rattle.delay_annotation.specs.RiseFall.{BothFit, RisesAndFalls, rise_fall_of}
use Rattle.delay_replay.specs.LatestChange.{latest_change}
use Rattle.delay_replay.specs.LineWaves.{AreLinesBounded}
use Rattle.delay_replay.proofs.EndValues.{StaysEarly, SettlesBy, copies_early, copies_late, goes_between, latest_small, small_delay}

-- a value that the wave had all through the window is shown
shown_within : (rise fall : ℕ) (wave : Wave) (time : ℤ) (last : Bool)
    → ((back : ℕ) → back ≤ max rise fall → wave (time -ℤ pos back) ≡ last) → risen_fallen rise fall wave time ≡ last
shown_within rise fall wave time true each =
    ⊎_elim
    (λ slow. (fall_is_slow wave time rise fall slow).broken rise (omega arith) (omega arith) (each rise (omega arith)))
    (λ slow. (rise_is_slow wave time rise fall slow).held (λ back from upto. each back (omega arith)))
    (cases_lt rise fall)
shown_within rise fall wave time false each =
    ⊎_elim
    (λ slow. (fall_is_slow wave time rise fall slow).held (λ back from upto. each back (omega arith)))
    (λ slow. (rise_is_slow wave time rise fall slow).broken fall (omega arith) (omega arith) (each fall (omega arith)))
    (cases_lt rise fall)

module _ (delays : RiseFallDelays) where
  -- the longer of the two delays of a pin
  abbrev longer : Delays
  longer pin = max (delays pin true) (delays pin false)

  stays : StaysEarly (rise_fall_copy delays)
  stays pin wave true early time below =
      not_fallen wave time (delays pin true) (delays pin false) (λ back from. early (time -ℤ pos back) (omega (arith, ints)))
  stays pin wave false early time below =
      not_risen wave time (delays pin true) (delays pin false) (λ back from. early (time -ℤ pos back) (omega (arith, ints)))

  settles : SettlesBy (rise_fall_copy delays) longer
  settles pin wave last bound late time from =
      shown_within (delays pin true) (delays pin false) wave time last (λ back upto. late (time -ℤ pos back) (omega (arith, ints)))

  -- so each line changes no later than by the longer delays
  waves_bounded : ((pin : PinRef) → longer pin ≤ MOST_DELAY) → (c : Circuit) → IsCircuit c → (pair : Vectors)
      → AreLinesBounded c (rise_fall_wave c pair delays)
  waves_bounded small c is pair line within changes are i d inside =
      let goes = goes_between (rise_fall_wave c pair delays line) (value c pair.first line) (value c pair.second line)
      (latest_change c longer line) changes
      (copies_early (rise_fall_copy delays) stays longer settles c pair line)
      (copies_late (rise_fall_copy delays) stays longer settles c is pair line within) are in
      let upto = (goes.between i d inside).to_bound in
      let latest = latest_small c is longer small line within in
      omega (arith, ints)

-- the waves of these delays are
pub rise_fall_bounded : (c : Circuit) → IsCircuit c → (kept : RisesAndFalls) → BothFit c kept → (pair : Vectors)
    → AreLinesBounded c (rise_fall_wave c pair (rise_fall_of c kept))
rise_fall_bounded c is kept fit pair =
    waves_bounded (rise_fall_of c kept)
    (λ pin. let one = small_delay c kept.rises fit.of_rises pin in let other = small_delay c kept.falls fit.of_falls pin in omega arith) c is pair
