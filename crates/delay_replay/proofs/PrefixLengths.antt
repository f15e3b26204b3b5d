-- The latest change of a line is the greatest length of the prefixes that end at it, and comes within all levels.
use Rattle.std.proofs.Common.{◌≡◌, ⊎_elim, ℕ, zero, suc, ◌+◌, ◌*◌, ◌<◌, ◌≤◌, max, List, [], ◌∷◌, ◌++◌, map, drop, take, length, get_or}
use Rattle.std.proofs.Common.{refl, sym, ap, subst, ◌∙◌, add-zero, zero-add, arith, sum_by}
use Rattle.std.specs.List.{All}
use Rattle.std.proofs.lemmas.Bool.{cases_lt}
use Rattle.std.proofs.lemmas.List.{take-append-drop, get_or-map, length-map}
use Rattle.std.proofs.lemmas.List.Sums.{sum_by-cons, sum_by-append, sum_by_push}
use Rattle.std.proofs.lemmas.Option.{slice_get-get_or, slice_get_within, get_or_from_slice_get}
use Rattle.pd_base.specs.declared.ids.LineId.{LineId}
use Rattle.pd_base.specs.declared.ids.PinRef.{PinRef}
use Rattle.pd_base.specs.Route.{Route}
use Rattle.netlist.specs.declared.kind.GateKind.{GateKind}
use Rattle.netlist.specs.declared.kind.GateKind.TheVariants.{And, Nand, Or, Nor, Xor, Xnor, Not, Buff}
use Rattle.netlist.specs.declared.limits.TheConstants.{MOST_LEVELS}
use Rattle.netlist.specs.Circuit.{Circuit, source_count, gate_count, gate_line, line_count, pins_at}
use Rattle.netlist.specs.Lawful.{IsCircuit, IsFanIn}
use Rattle.netlist.specs.Greatest.{greatest}
use Rattle.netlist.specs.Paths.{Connects, IsPrefix, end_of, length_of, line_after}
use Rattle.netlist.specs.Pins.{IsPinOn}
use Rattle.netlist.specs.Waves.{Delays}
use Rattle.netlist.proofs.Evaluation.{line_induction, value_at_source}
use Rattle.delay_annotation.specs.declared.delays.TheConstants.{MOST_DELAY}
use Rattle.delay_replay.specs.LatestChange.{IsGreatestLength, delayed, latest_change}
use Rattle.delay_replay.proofs.EndValues.{latest_at_gate, latest_small}

-- a gate of a circuit has a pin
some_pins : (kind : GateKind) (count : ℕ) → IsFanIn kind count → 0 < count
some_pins And count is = omega (arith, is.some)
some_pins Nand count is = omega (arith, is.some)
some_pins Or count is = omega (arith, is.some)
some_pins Nor count is = omega (arith, is.some)
some_pins Xor count is = omega (arith, is.some)
some_pins Xnor count is = omega (arith, is.some)
some_pins Not count is = omega arith
some_pins Buff count is = omega arith

module _ (c : Circuit) where
  -- one step more connects where its pin is on the line that was reached
  connects_push : (line : ℕ) (steps : List PinRef) (step : PinRef) → Connects c line steps
      → IsPinOn c step (line_after c line steps) → Connects c line (steps ++ step ∷ [])
  connects_push line [] step connects on = (on, tt)
  connects_push line (first ∷ steps) step connects on =
      (connects.0, connects_push (gate_line c first.gate.0) steps step connects.1 on)

  -- and leads to its gate's line
  after_push : (line : ℕ) (steps : List PinRef) (step : PinRef)
      → line_after c line (steps ++ step ∷ []) ≡ gate_line c step.gate.0
  after_push line [] step = refl
  after_push line (first ∷ steps) step = after_push (gate_line c first.gate.0) steps step

-- a place that is one more behind the first is as many behind the one after it
shifted : (n k : ℕ) → n + suc k ≡ n + 1 + k
shifted n k = omega arith

module _ (delays : Delays) where
  -- no pin's line with the pin's delay is above the greatest
  at_most_delayed : (gate first : ℕ) (times : List ℕ) (pin : ℕ) → pin < length times
      → get_or times pin 0 + delays (record { gate = record { 0 = gate }; pin = first + pin })
      ≤ greatest (delayed delays gate first times)
  at_most_delayed gate first [] pin within = absurd (omega arith)
  at_most_delayed gate first (time ∷ times) zero within =
      let here = ap (λ k. delays (record { gate = record { 0 = gate }; pin = k })) (add-zero first) in omega arith
  at_most_delayed gate first (time ∷ times) (suc pin) within =
      let further = at_most_delayed gate (first + 1) times pin (omega arith) in
      let here = ap (λ k. delays (record { gate = record { 0 = gate }; pin = k })) (shifted first pin) in
      omega arith

  -- of some lines, one with its pin's delay is the greatest
  greatest_delayed : (gate first : ℕ) (times : List ℕ) → 0 < length times
      → (pin : ℕ) × (pin < length times)
      × (get_or times pin 0 + delays (record { gate = record { 0 = gate }; pin = first + pin })
      ≡ greatest (delayed delays gate first times))
  greatest_delayed gate first [] some = absurd (omega arith)
  greatest_delayed gate first (time ∷ []) some =
      (0, omega arith, ap (λ k. time + delays (record { gate = record { 0 = gate }; pin = k })) (add-zero first) ∙ alone _)
    where
      alone : (n : ℕ) → n ≡ max n 0
      alone n = omega arith
  greatest_delayed gate first (time ∷ next ∷ times) some =
      let found = greatest_delayed gate (first + 1) (next ∷ times) (omega arith) in
      let own = time + delays (record { gate = record { 0 = gate }; pin = first }) in
      ⊎_elim
      (λ less. (
        suc found.0,
        omega (arith, found.1),
        ap (λ k. get_or (next ∷ times) found.0 0 + delays (record { gate = record { 0 = gate }; pin = k }))
            (shifted first found.0)
            ∙ found.2 ∙ above _ _ less,
      ))
      (λ from. (
        0,
        omega arith,
        ap (λ k. time + delays (record { gate = record { 0 = gate }; pin = k })) (add-zero first) ∙ largest _ _ from,
      ))
      (cases_lt own (greatest (delayed delays gate (first + 1) (next ∷ times))))
    where
      above : (n m : ℕ) → n < m → m ≡ max n m
      above n m less = omega arith

      largest : (n m : ℕ) → m ≤ n → n ≡ max n m
      largest n m from = omega arith

  module _ (c : Circuit) (is : IsCircuit c) where
    -- through a pin the latest change comes later by the pin's delay, or more
    pub latest_through : (step : PinRef) (line : ℕ) → IsPinOn c step line
        → latest_change c delays line + delays step ≤ latest_change c delays (gate_line c step.gate.0)
    latest_through step line on =
        let pins = pins_at c step.gate.0 in
        let latest = λ (pin : LineId). latest_change c delays pin.0 in
        let within = slice_get_within pins step.pin (record { 0 = line }) on.reads in
        let own : get_or (map latest pins) step.pin 0 ≡ latest_change c delays line =
        get_or-map latest pins step.pin (record { 0 = line }) 0 within
        ∙ ap latest (get_or_from_slice_get pins step.pin (record { 0 = line }) (record { 0 = line }) on.reads) in
        let most = at_most_delayed step.gate.0 0 (map latest pins) step.pin (omega (arith, length-map pins latest)) in
        let same = ap (λ k. delays (record { gate = step.gate; pin = k })) (zero-add step.pin) in
        let gate = latest_at_gate delays c is step.gate.0 on.in_circuit in
        omega arith

    -- along steps that connect it comes later by all their delays, or more
    latest_along : (line : ℕ) (steps : List PinRef) → Connects c line steps
        → latest_change c delays line + sum_by delays steps ≤ latest_change c delays (line_after c line steps)
    latest_along line [] connects = omega arith
    latest_along line (step ∷ steps) connects =
        let further = latest_along (gate_line c step.gate.0) steps connects.1 in
        let through = latest_through step line connects.0 in
        omega (arith, sum_by-cons delays step steps)

    -- a prefix that ends at a line and is as long as the line's latest change is late
    record HasLongest (line : ℕ) : Type 0 where
      longest : Route
      is_prefix : IsPrefix c longest
      ends : end_of c longest ≡ line
      reached : length_of delays longest ≡ latest_change c delays line

    longest_at_source : (line : ℕ) → line < source_count c → HasLongest line
    longest_at_source line source = record {
      longest = record { source = record { 0 = line }; steps = [] };
      is_prefix = record { source = source; connects = tt };
      ends = refl;
      reached = sym (value_at_source c (λ source. 0) (λ gate times. greatest (delayed delays gate 0 times)) line source);
    }

    -- the longest prefix to the line of a pin, and then through the pin
    longest_through : (step : PinRef) (line : ℕ) → IsPinOn c step line
        → latest_change c delays line + delays step ≡ latest_change c delays (gate_line c step.gate.0)
        → HasLongest line → HasLongest (gate_line c step.gate.0)
    longest_through step line on late before =
        let path = before.longest in record {
          longest = record { source = path.source; steps = path.steps ++ step ∷ [] };
          is_prefix = record {
            source = before.is_prefix.source;
            connects = connects_push c path.source.0 path.steps step before.is_prefix.connects
                (subst (IsPinOn c step) (sym before.ends) on);
          };
          ends = after_push c path.source.0 path.steps step;
          reached = sum_by_push delays path.steps step ∙ ap (λ n. n + delays step) before.reached ∙ late;
        }

    longest_at_gate : (gate : ℕ) → gate < gate_count c → All (λ pin. HasLongest pin.0) (pins_at c gate)
        → HasLongest (gate_line c gate)
    longest_at_gate gate within all =
        let pins = pins_at c gate in
        let latest = λ (pin : LineId). latest_change c delays pin.0 in
        let long = length-map pins latest in
        let found = greatest_delayed gate 0 (map latest pins)
        (omega (arith, some_pins _ (length pins) (is.fan_in gate within))) in
        let inside : found.0 < length pins = omega (arith, found.1) in
        let none : LineId = record { 0 = 0 } in
        let line = get_or pins found.0 none in
        let step : PinRef = record { gate = record { 0 = gate }; pin = found.0 } in
        let late : latest_change c delays line.0 + delays step ≡ latest_change c delays (gate_line c gate) =
        ap (λ n. n + delays step) (sym (get_or-map latest pins found.0 none 0 inside))
        ∙ ap (λ k. get_or (map latest pins) found.0 0 + delays (record { gate = record { 0 = gate }; pin = k }))
        (sym (zero-add found.0))
        ∙ found.2 ∙ sym (latest_at_gate delays c is gate within) in
        longest_through step line.0 (record { in_circuit = within; reads = slice_get-get_or pins found.0 none inside }) late
        (all found.0 none inside)

    -- so the latest change is the greatest length
    pub latest_is_greatest : (line : ℕ) → line < line_count c → IsGreatestLength c delays line (latest_change c delays line)
    latest_is_greatest line within =
        let has = line_induction c is.reads_lines HasLongest longest_at_source longest_at_gate is.loop_free line within in
        record {
          at_most = λ prefix is_prefix ends.
              let along = latest_along prefix.source.0 prefix.steps is_prefix.connects in
              let same = ap (latest_change c delays) ends in
              omega arith;
          longest = has.longest;
          is_prefix = has.is_prefix;
          ends = has.ends;
          reached = has.reached;
        }

    module _ (small : (pin : PinRef) → delays pin ≤ MOST_DELAY) where
      -- the delays of steps that connect come within all levels
      steps_small : (line : ℕ) (steps : List PinRef) → line < line_count c → Connects c line steps
          → latest_change c delays line + sum_by delays steps ≤ MOST_LEVELS * MOST_DELAY
      steps_small line [] within connects = omega (arith, latest_small c is delays small line within)
      steps_small line (step ∷ steps) within connects =
          let further = steps_small (gate_line c step.gate.0) steps (omega (arith, connects.0.in_circuit)) connects.1 in
          let through = latest_through step line connects.0 in
          omega (arith, sum_by-cons delays step steps)

      -- so do those of the last of them
      pub rest_small : (line : ℕ) (steps : List PinRef) (place : ℕ) → line < line_count c → Connects c line steps
          → sum_by delays (drop place steps) ≤ MOST_LEVELS * MOST_DELAY
      rest_small line steps place within connects =
          let all = steps_small line steps within connects in
          let parts = ap (sum_by delays) (take-append-drop place steps) in
          omega (arith, sum_by-append delays (take place steps) (drop place steps))
