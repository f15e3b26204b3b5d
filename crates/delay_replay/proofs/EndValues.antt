-- A line has its value under the first vector before time 0 and its value under the second from its latest change on, and the
-- latest change is no later than all levels take together.
use Rattle.std.proofs.Common.{◌≡◌, ⊎_elim, ℕ, ◌+◌, ◌*◌, ◌<◌, ◌≤◌, ℤ, pos, negsuc, ◌-ℤ◌, ◌<ℤ◌, ◌≤ℤ◌, Bool, true, false, if◌then◌else◌}
use Rattle.std.proofs.Common.{List, [], ◌∷◌, map, length, get_or, refl, sym, ap, ap₂, subst, ◌∙◌, arith}
use Rattle.std.specs.Int.RustNames.{int_lt}
use Rattle.std.specs.List.{All, AllZip}
use Rattle.std.proofs.lemmas.Int.{ints, by_lt_z}
use Rattle.std.proofs.lemmas.Bool.{cases_lt}
use Rattle.std.proofs.lemmas.List.{get_or_past}
use Rattle.std.proofs.lemmas.List.Elements.{All-head, All-tail}
use Rattle.pd_base.specs.declared.ids.LineId.{LineId}
use Rattle.pd_base.specs.declared.ids.PinRef.{PinRef}
use Rattle.pd_base.specs.Pair.{Vectors}
use Rattle.netlist.specs.declared.limits.TheConstants.{MOST_LEVELS}
use Rattle.netlist.specs.Circuit.{Circuit, source_count, gate_count, line_count, gate_line, kind_at, pins_at}
use Rattle.netlist.specs.Lawful.{IsCircuit}
use Rattle.netlist.specs.Greatest.{greatest}
use Rattle.netlist.specs.Levels.{level}
use Rattle.netlist.specs.Values.{bit_of, gate_value, value}
use Rattle.netlist.specs.Waves.{Delays, Wave, PinCopy, source_wave, pin_values, delay_copy, wave_under, wave_of}
use Rattle.netlist.proofs.Evaluation.{line_induction, value_at_source, value_at_gate}
use Rattle.path_laws.proofs.RelatedValues.{values_related_anywhere}
use Rattle.path_laws.proofs.StepCounts.{no_higher_level}
use Rattle.netlist.specs.Pins.{pin_place_in}
use Rattle.delay_annotation.specs.declared.delays.TheConstants.{MOST_DELAY}
use Rattle.delay_annotation.specs.Annotation.{Fits, delays_of}
use Rattle.delay_replay.specs.Changes.{Changes, AreChangesOf, AreTimesRising}
use Rattle.delay_replay.proofs.ChangeTimes.{listed_changes, no_longer}
use Rattle.delay_replay.proofs.Turning.{at_earliest, at_latest}
use Rattle.delay_replay.specs.LatestChange.{delayed, latest_change}
use Rattle.delay_replay.specs.LineWaves.{GoesBetween, IsTimeWithin}

-- the wave has this value before time 0
abbrev pub IsEarly : Wave → Bool → Type 0
IsEarly wave first = (time : ℤ) → time <ℤ pos 0 → wave time ≡ first

-- and this value from a time on
abbrev pub IsLateFrom : ℕ → Wave → Bool → Type 0
IsLateFrom bound wave last = (time : ℤ) → pos bound ≤ℤ time → wave time ≡ last

-- a choice by the sign of a time, before 0 and from 0 on
pub early_choice : (first last : Bool) → IsEarly (λ time. if int_lt time (pos 0) then first else last) first
early_choice first last time below =
    let test : int_lt time (pos 0) ≡ true = grind (arith, ints) in ap (λ bit. if bit then first else last) test

pub late_choice : (first last : Bool) → IsLateFrom 0 (λ time. if int_lt time (pos 0) then first else last) last
late_choice first last time from =
    let test : int_lt time (pos 0) ≡ false = grind (arith, ints) in ap (λ bit. if bit then first else last) test

module _ (delays : Delays) (c : Circuit) (is : IsCircuit c) where
  -- at a gate the latest change is the greatest of its pins' lines, each with the pin's delay
  pub latest_at_gate : (gate : ℕ) → gate < gate_count c → latest_change c delays (gate_line c gate)
      ≡ greatest (delayed delays gate 0 (map (λ pin. latest_change c delays pin.0) (pins_at c gate)))
  latest_at_gate gate within =
      value_at_gate c (λ source. 0) (λ gate times. greatest (delayed delays gate 0 times))
      is.reads_lines is.loop_free gate within

-- what a pin makes of a wave has the wave's first value before time 0, too
abbrev pub StaysEarly : PinCopy → Type 0
StaysEarly copy = (pin : PinRef) (wave : Wave) (first : Bool) → IsEarly wave first → IsEarly (copy pin wave) first

-- and its last value, once this delay has passed
abbrev pub SettlesBy : PinCopy → Delays → Type 0
SettlesBy copy delays =
    (pin : PinRef) (wave : Wave) (last : Bool) (bound : ℕ) → IsLateFrom bound wave last → IsLateFrom (bound + delays pin) (copy pin wave) last

module _ (copy : PinCopy) (stays : StaysEarly copy) (delays : Delays) (settles : SettlesBy copy delays) where
  -- where all pins' lines have their first values before time 0, so have their pins
  early_pins : (gate pin : ℕ) (waves : List Wave) (values : List Bool) → AllZip IsEarly waves values
      → (time : ℤ) → time <ℤ pos 0 → pin_values copy gate pin waves time ≡ values
  early_pins gate pin [] [] all time below = refl
  early_pins gate pin [] (first ∷ values) all time below = absurd all
  early_pins gate pin (wave ∷ waves) [] all time below = absurd all
  early_pins gate pin (wave ∷ waves) (first ∷ values) all time below =
      let own : PinRef = record { gate = record { 0 = gate }; pin = pin } in
      ap₂ (λ (v : Bool) vs. v ∷ vs) (stays own wave first all.0 time below)
      (early_pins gate (pin + 1) waves values all.1 time below)

  -- before time 0 a line has its value under the first vector
  pub copies_early : (c : Circuit) (pair : Vectors) (line : ℕ) → IsEarly (wave_under copy c pair line) (value c pair.first line)
  copies_early c pair =
      values_related_anywhere c IsEarly
      (source_wave pair) (λ gate waves time. gate_value (kind_at c gate) (pin_values copy gate 0 waves time))
      (bit_of pair.first) (λ gate values. gate_value (kind_at c gate) values)
      (λ source. early_choice (bit_of pair.first source) (bit_of pair.second source))
      (λ gate waves values all time below. ap (gate_value (kind_at c gate)) (early_pins gate 0 waves values all time below))

  -- where all pins' lines have their last values from their bounds on, so have their pins with their delays
  late_pins : (wave : ℕ → Wave) (last : ℕ → Bool) (bound : ℕ → ℕ) (gate pin : ℕ) (lines : List LineId)
      → All (λ line. IsLateFrom (bound line.0) (wave line.0) (last line.0)) lines
      → (time : ℤ) → pos (greatest (delayed delays gate pin (map (λ line. bound line.0) lines))) ≤ℤ time
      → pin_values copy gate pin (map (λ line. wave line.0) lines) time ≡ map (λ line. last line.0) lines
  late_pins wave last bound gate pin [] all time from = refl
  late_pins wave last bound gate pin (line ∷ lines) all time from =
      let P : LineId → Type 0 = λ (l : LineId). IsLateFrom (bound l.0) (wave l.0) (last l.0) in
      let own : PinRef = record { gate = record { 0 = gate }; pin = pin } in
      ap₂ (λ (v : Bool) vs. v ∷ vs) (settles own (wave line.0) (last line.0) (bound line.0) (All-head P line lines all) time (omega (arith, ints)))
      (late_pins wave last bound gate (pin + 1) lines (All-tail P line lines all) time (omega (arith, ints)))

  module _ (c : Circuit) (is : IsCircuit c) where
    module _ (pair : Vectors) where
      -- the wave of a line has its value under the second vector from the latest change on
      abbrev EndsWell : ℕ → Type 0
      EndsWell line = IsLateFrom (latest_change c delays line) (wave_under copy c pair line) (value c pair.second line)

      ends_at_source : (line : ℕ) → line < source_count c → EndsWell line
      ends_at_source line source time from =
          let none = value_at_source c (λ source. 0) (λ gate times. greatest (delayed delays gate 0 times)) line source in
          ap (λ (wave : Wave). wave time) (value_at_source c (source_wave pair)
          (λ gate waves time. gate_value (kind_at c gate) (pin_values copy gate 0 waves time)) line source)
          ∙ late_choice (bit_of pair.first line) (bit_of pair.second line) time (subst (λ n. pos n ≤ℤ time) none from)
          ∙ sym (value_at_source c (bit_of pair.second) (λ gate values. gate_value (kind_at c gate) values) line source)

      ends_at_gate : (gate : ℕ) → gate < gate_count c → All (λ pin. EndsWell pin.0) (pins_at c gate)
          → EndsWell (gate_line c gate)
      ends_at_gate gate within pins time from =
          ap (λ (wave : Wave). wave time) (value_at_gate c (source_wave pair)
          (λ gate waves time. gate_value (kind_at c gate) (pin_values copy gate 0 waves time))
          is.reads_lines is.loop_free gate within)
          ∙ ap (gate_value (kind_at c gate))
          (late_pins (wave_under copy c pair) (value c pair.second) (latest_change c delays) gate 0 (pins_at c gate) pins time
          (subst (λ n. pos n ≤ℤ time) (latest_at_gate delays c is gate within) from))
          ∙ sym (value_at_gate c (bit_of pair.second) (λ gate values. gate_value (kind_at c gate) values)
          is.reads_lines is.loop_free gate within)

      pub copies_late : (line : ℕ) → line < line_count c → EndsWell line
      copies_late = line_induction c is.reads_lines EndsWell ends_at_source ends_at_gate is.loop_free

-- a delay has these two laws
delay_stays : (delays : Delays) → StaysEarly (delay_copy delays)
delay_stays delays pin wave first early time below = early (time -ℤ pos (delays pin)) (omega (arith, ints))

delay_settles : (delays : Delays) → SettlesBy (delay_copy delays) delays
delay_settles delays pin wave last bound late time from = late (time -ℤ pos (delays pin)) (omega (arith, ints))

-- before time 0 a line has its value under the first vector
pub wave_early : (delays : Delays) (c : Circuit) (pair : Vectors) (line : ℕ) → IsEarly (wave_of c pair delays line) (value c pair.first line)
wave_early delays = copies_early (delay_copy delays) (delay_stays delays) delays (delay_settles delays)

-- from its latest change on it has its value under the second
pub wave_late : (delays : Delays) (c : Circuit) → IsCircuit c → (pair : Vectors) (line : ℕ) → line < line_count c
    → IsLateFrom (latest_change c delays line) (wave_of c pair delays line) (value c pair.second line)
wave_late delays = copies_late (delay_copy delays) (delay_stays delays) delays (delay_settles delays)

-- a wave with one value before time 0 and another from a bound on goes from the one to the other between
pub goes_between : (wave : Wave) (first last : Bool) (bound : ℕ) (changes : Changes) → IsEarly wave first
    → IsLateFrom bound wave last → AreChangesOf wave changes → GoesBetween first last bound changes
goes_between wave first last bound changes early late are = record {
  earliest = sym (at_earliest changes (negsuc 0)
      (λ i d within. let zero = (between i d within).from_zero in omega (arith, ints)))
      ∙ are.shows (negsuc 0) ∙ early (negsuc 0) (omega (arith, ints));
  latest = λ time all. at_latest changes time all
      ∙ sym (at_latest changes (pos bound) (λ i d within. (between i d within).to_bound))
      ∙ are.shows (pos bound) ∙ late (pos bound) (omega (arith, ints));
  early = λ time below. are.shows time ∙ early time below;
  late = λ time from. are.shows time ∙ late time from;
  between = between;
}
  where
    listed : (i : ℕ) (d : ℤ) → i < length changes.times
        → wave (get_or changes.times i d -ℤ pos 1) ≡ wave (get_or changes.times i d) → ⊥
    listed i d within = listed_changes wave changes are i d within

    not_early : (time : ℤ) → (wave (time -ℤ pos 1) ≡ wave time → ⊥) → pos 0 ≤ℤ time
    not_early time differs =
        by_lt_z time (pos 0)
        (λ below. absurd (differs (early (time -ℤ pos 1) (omega (arith, ints)) ∙ sym (early time below))))
        (λ from. from)

    not_late : (time : ℤ) → (wave (time -ℤ pos 1) ≡ wave time → ⊥) → time ≤ℤ pos bound
    not_late time differs =
        by_lt_z (pos bound) time
        (λ above. absurd (differs (late (time -ℤ pos 1) (omega (arith, ints)) ∙ sym (late time (omega (arith, ints))))))
        (λ upto. upto)

    between : All (IsTimeWithin bound) changes.times
    between i d within = record {
      from_zero = not_early (get_or changes.times i d) (listed i d within);
      to_bound = not_late (get_or changes.times i d) (listed i d within);
    }

-- a wave that can change at time 0 alone has one change at most
pub one_change : (first last : Bool) (changes : Changes) → AreTimesRising changes.times → GoesBetween first last 0 changes
    → length changes.times ≤ 1
one_change first last changes rising goes =
    no_longer changes.times (pos 0 ∷ []) rising (λ i j d less within. absurd (omega arith))
    (λ i d within. (0, omega arith, zero i d within))
  where
    zero : (i : ℕ) (d : ℤ) → i < length changes.times → pos 0 ≡ get_or changes.times i d
    zero i d within =
        let from = (goes.between i d within).from_zero in
        let upto = (goes.between i d within).to_bound in
        omega (arith, ints)

-- a delay that is kept is none over the greatest
pub small_delay : (c : Circuit) (kept : List ℕ) → Fits c kept → (pin : PinRef) → delays_of c kept pin ≤ MOST_DELAY
small_delay c kept fits pin =
    ⊎_elim
    (λ within. fits.bounded (pin_place_in c pin) 0 within)
    (λ past. omega (arith, get_or_past kept (pin_place_in c pin) 0 past))
    (cases_lt (pin_place_in c pin) (length kept))

module _ (c : Circuit) (is : IsCircuit c) (delays : Delays) (small : (pin : PinRef) → delays pin ≤ MOST_DELAY) where
  -- the line's latest change comes within its levels
  abbrev ComesByLevel : ℕ → Type 0
  ComesByLevel line = latest_change c delays line ≤ level c line * MOST_DELAY

  by_levels : (gate pin : ℕ) (lines : List LineId) → All (λ line. ComesByLevel line.0) lines
      → greatest (delayed delays gate pin (map (λ line. latest_change c delays line.0) lines))
      ≤ (1 + greatest (map (λ line. level c line.0) lines)) * MOST_DELAY
  by_levels gate pin [] all = omega arith
  by_levels gate pin (line ∷ lines) all =
      let P : LineId → Type 0 = λ (l : LineId). ComesByLevel l.0 in
      let own = All-head P line lines all in
      let rest = by_levels gate (pin + 1) lines (All-tail P line lines all) in
      let delay = small (record { gate = record { 0 = gate }; pin = pin }) in
      omega arith

  by_level : (line : ℕ) → line < line_count c → ComesByLevel line
  by_level =
      line_induction c is.reads_lines ComesByLevel
      (λ line source.
      let none = value_at_source c (λ source. 0) (λ gate times. greatest (delayed delays gate 0 times)) line source in
      omega arith)
      (λ gate within pins.
      let latest = latest_at_gate delays c is gate within in
      let levels : level c (gate_line c gate) ≡ 1 + greatest (map (λ pin. level c pin.0) (pins_at c gate)) =
      value_at_gate c (λ source. 0) (λ gate levels. 1 + greatest levels) is.reads_lines is.loop_free gate within in
      let upto = by_levels gate 0 (pins_at c gate) pins in
      omega arith)
      is.loop_free

  -- and so within all levels
  pub latest_small : (line : ℕ) → line < line_count c → latest_change c delays line ≤ MOST_LEVELS * MOST_DELAY
  latest_small line within = omega (arith, by_level line within, no_higher_level c line within, is.few_levels)
