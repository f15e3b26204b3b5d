-- Whether sides have settled, step by step from the last one back, and that it means for the waves of a circuit what is said of
-- the circuit.
use Rattle.std.proofs.Common.{◌≡◌, ◌≢◌, ◌↔◌, ℕ, zero, suc, ◌+◌, ◌-◌, ◌<◌, ◌≤◌, ℤ, pos, ◌-ℤ◌, Bool, true, false, IsTrue, List, [], ◌∷◌, drop, length, get_or, refl, sym, ap, subst, subst₂, ◌∙◌, arith, sum_by}
use Rattle.std.specs.Bool.{beq}
use Rattle.std.specs.Int.{int_max}
use Rattle.std.specs.List.{fold}
use Rattle.std.proofs.lemmas.Int.{ints, fold-int_max_bounds}
use Rattle.std.proofs.lemmas.List.{drop_more}
use Rattle.std.proofs.lemmas.List.Sums.{sum_by-cons}
use Rattle.std.proofs.lemmas.Option.{slice_get_within}
use Rattle.pd_base.specs.declared.ids.LineId.{LineId}
use Rattle.pd_base.specs.declared.ids.PinRef.{PinRef}
use Rattle.pd_base.specs.Pair.{Vectors}
use Rattle.netlist.specs.Circuit.{Circuit, gate_count, gate_line, line_count, pins_at}
use Rattle.netlist.specs.Lawful.{IsCircuit}
use Rattle.netlist.specs.Meaning.{AreSettled, AreSettledSides}
use Rattle.netlist.specs.Paths.{Connects, IsSide}
use Rattle.netlist.specs.Values.{value}
use Rattle.netlist.specs.Waves.{Delays, wave_of}
use Rattle.netlist.proofs.Evaluation.{all_at_place}
use Rattle.netlist.specs.Pins.{IsPin}
use Rattle.delay_replay.specs.Changes.{Changes, wave_at}
use Rattle.delay_replay.specs.LineWaves.{AreWavesOf, EndsAt, kept_wave}
use Rattle.delay_replay.specs.Settling.{HasSettled, IsOwnOrSettled, HaveSidesSettled, HaveSettled}
use Rattle.delay_replay.proofs.Replaying.{line_goes}

-- a wave that ends at a value has settled at a time exactly where it has this value then
pub settled_at_end : (changes : Changes) (time : ℤ) (last : Bool) → EndsAt changes last
    → (wave_at changes time ≡ last) ↔ HasSettled changes time
settled_at_end changes time last ends =
    let end = fold int_max (pos 0) changes.times in
    let behind = (fold-int_max_bounds (pos 0) changes.times end refl).1 in (
      λ same. record { settled = λ later all. ends later all ∙ sym same },
      λ has. sym (has.settled end behind) ∙ ends end behind,
    )

-- two values are the same where the test of it is true
same_value : (a b : Bool) → IsTrue (beq a b) ↔ (a ≡ b)
same_value true true = (λ is. refl, λ same. refl)
same_value true false = (λ is. cc, λ same. cc)
same_value false true = (λ is. cc, λ same. cc)
same_value false false = (λ is. refl, λ same. refl)

-- what the program tests of a side pin: its line's wave has, less the delays behind and its own, its last value
pub pin_test : (delays : Delays) (changes : Changes) (time : ℤ) (behind delay : ℕ) (step : PinRef) (pin : ℕ) (shown last : Bool)
    → EndsAt changes last → pin ≢ step.pin → delay ≡ delays (record { gate = step.gate; pin = pin })
    → shown ≡ wave_at changes (time -ℤ pos (behind + delay))
    → IsTrue (beq shown last) ↔ IsOwnOrSettled delays changes (time -ℤ pos behind) step pin
pin_test delays changes time behind delay step pin shown last ends apart own is =
    let both = settled_at_end changes (time -ℤ pos behind -ℤ pos (delays (record { gate = step.gate; pin = pin }))) last ends in
    let at : time -ℤ pos (behind + delay) ≡ time -ℤ pos behind -ℤ pos (delays (record { gate = step.gate; pin = pin })) =
    omega (arith, ints) in
    let now = is ∙ ap (wave_at changes) at in (
      λ test. λ other. both.0 (sym now ∙ (same_value shown last).0 test),
      λ settled. (same_value shown last).1 (now ∙ both.1 (settled apart)),
    )

-- the same of a wave and a time that are equal
pub tested_at : (result : Bool) (delays : Delays) (wave kept : Changes) (t time : ℤ) (behind : ℕ) (step : PinRef) (pin : ℕ)
    → wave ≡ kept → t ≡ time → IsTrue result ↔ IsOwnOrSettled delays wave (t -ℤ pos behind) step pin
    → IsTrue result ↔ IsOwnOrSettled delays kept (time -ℤ pos behind) step pin
tested_at result delays wave kept t time behind step pin same now tests =
    subst₂ (λ w s. IsTrue result ↔ IsOwnOrSettled delays w (s -ℤ pos behind) step pin) same now tests

module _ (c : Circuit) where
  -- of steps that connect each is a pin of the circuit
  pub step_is_pin : (line : ℕ) (steps : List PinRef) (k : ℕ) (d : PinRef) → Connects c line steps → k < length steps
      → IsPin c (get_or steps k d)
  step_is_pin line [] k d connects within = absurd (omega arith)
  step_is_pin line (step ∷ steps) zero d connects within = record {
    in_circuit = connects.0.in_circuit;
    in_gate = slice_get_within (pins_at c step.gate.0) step.pin (record { 0 = line }) connects.0.reads;
  }
  step_is_pin line (step ∷ steps) (suc k) d connects within =
      step_is_pin (gate_line c step.gate.0) steps k d connects.1 (omega arith)

module _ (c : Circuit) (delays : Delays) (waves : List Changes) (time : ℤ) where
  -- where all steps have settled sides, so have the last ones
  have_from : (place : ℕ) (steps : List PinRef) → HaveSettled c delays waves time steps
      → HaveSettled c delays waves time (drop place steps)
  have_from zero steps have = have
  have_from (suc place) [] have = tt
  have_from (suc place) (step ∷ steps) have = have_from place steps have.1

  module _ (steps : List PinRef) (place : ℕ) (d : PinRef) (some : 0 < place) (within : place ≤ length steps) where
    -- the step before this place, and the steps from it on
    abbrev step : PinRef
    step = get_or steps (place - 1) d

    split : drop (place - 1) steps ≡ step ∷ drop place steps
    split =
        drop_more steps (place - 1) d (omega arith)
        ∙ ap (λ n. step ∷ drop n steps) (let same : place - 1 + 1 ≡ place = omega arith in same)

    -- its delay adds to those behind it
    pub behind_more : (behind delay : ℕ) → behind ≡ sum_by delays (drop place steps) → delay ≡ delays step
        → behind + delay ≡ sum_by delays (drop (place - 1) steps)
    behind_more behind delay sum own =
        let all = ap (sum_by delays) split in omega (arith, sum_by-cons delays step (drop place steps))

    module _ (behind : ℕ) (sum : behind ≡ sum_by delays (drop place steps)) where
      -- where its sides have settled too, so have those from it on
      pub one_step_more : HaveSidesSettled c delays waves (time -ℤ pos behind) step
          → HaveSettled c delays waves time (drop place steps) → HaveSettled c delays waves time (drop (place - 1) steps)
      one_step_more sides have =
          subst (HaveSettled c delays waves time) (sym split)
          (subst (λ n. HaveSidesSettled c delays waves (time -ℤ pos n) step) sum sides, have)

      -- where they have not, not all steps have
      pub one_step_not : (HaveSidesSettled c delays waves (time -ℤ pos behind) step → ⊥)
          → HaveSettled c delays waves time steps → ⊥
      one_step_not differs have =
          differs (subst (λ n. HaveSidesSettled c delays waves (time -ℤ pos n) step) (sym sum)
          (subst (HaveSettled c delays waves time) split (have_from (place - 1) steps have)).0)

module _ (c : Circuit) (is : IsCircuit c) (pair : Vectors) (delays : Delays) (waves : List Changes)
    (are : AreWavesOf c pair delays waves) where
  -- a kept wave has settled where its line has its value under the second vector
  wave_settled : (line : ℕ) → line < line_count c → (time : ℤ)
      → HasSettled (kept_wave waves line) time ↔ (wave_of c pair delays line time ≡ value c pair.second line)
  wave_settled line within time =
      let kept = are.each line within in
      let goes = line_goes c pair delays is line within (kept_wave waves line) kept in
      let both = settled_at_end (kept_wave waves line) time (value c pair.second line) goes.latest in
      (λ settled. sym (kept.shows time) ∙ both.1 settled, λ same. both.0 (kept.shows time ∙ same))

  -- the line of a side pin is one of the circuit
  side_line : (step : PinRef) → step.gate.0 < gate_count c → (pin : ℕ) (side : LineId) → IsSide c step pin side
      → side.0 < line_count c
  side_line step within pin side is_side =
      all_at_place (λ (line : LineId). line.0 < line_count c) (pins_at c step.gate.0) pin side
      (is.reads_lines step.gate.0 within) is_side.reads

  sides_settled : (step : PinRef) → step.gate.0 < gate_count c → (time : ℤ)
      → HaveSidesSettled c delays waves time step ↔ AreSettledSides c pair delays time step
  sides_settled step within time = (
    λ kept. λ pin side is_side. (wave_settled side.0 (side_line step within pin side is_side) _).0 (kept pin side is_side),
    λ waves. λ pin side is_side. (wave_settled side.0 (side_line step within pin side is_side) _).1 (waves pin side is_side),
  )

  -- so the sides of steps that connect have settled as the circuit's lines have
  pub steps_settled : (line : ℕ) (steps : List PinRef) → Connects c line steps → (time : ℤ)
      → HaveSettled c delays waves time steps ↔ AreSettled c pair delays time steps
  steps_settled line [] connects time = (λ kept. tt, λ waves. tt)
  steps_settled line (step ∷ steps) connects time =
      let sides = sides_settled step connects.0.in_circuit (time -ℤ pos (sum_by delays steps)) in
      let rest = steps_settled (gate_line c step.gate.0) steps connects.1 time in
      (λ kept. (sides.0 kept.0, rest.0 kept.1), λ waves. (sides.1 waves.0, rest.1 waves.1))
