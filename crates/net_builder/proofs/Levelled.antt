-- When no gate is ready any more, the gates that have levels are those that are not looped, and the levels are right.
use Rattle.std.proofs.Common.{◌≡◌, ◌≢◌, ⊎_elim, ℕ, zero, suc, ◌+◌, ◌-◌, ◌*◌, ◌<◌, ◌≤◌, eqb, ltb, List, [], ◌∷◌, length, take, drop, get_or, slice_get, slice_index, slice_index_or, Some, sum_by, All, refl, sym, ap, ◌∙◌, arith}
use Rattle.std.proofs.lemmas.Bool.{cases_lt, cases_eq, cond-true, eq-eqb, lt-ltb}
use Rattle.std.proofs.lemmas.List.{ext_get_or, get_or_default, get_or-take, length-take, length-drop}
use Rattle.std.proofs.lemmas.List.FromFn.{get_or-map-range_with_len, length-map-range_with_len}
use Rattle.std.proofs.lemmas.List.Sums.{sum_by-le, sum_by-take-drop}
use Rattle.pd_base.specs.declared.ids.LineId.{LineId}
use Rattle.netlist.specs.Circuit.{Circuit, gate_count, gate_line, line_count, pins_at, source_count}
use Rattle.netlist.specs.Greatest.{greatest}
use Rattle.netlist.specs.Lawful.{IsLooped, IsLoopFree, ReadsGate, ReadsOn}
use Rattle.netlist.specs.Levels.{level, line_levels}
use Rattle.netlist.proofs.Evaluation.{all_at_place, line_induction, map_agree, value_at_gate, value_at_source}
use Rattle.net_builder.specs.Faults.{IsFirstLooped}
use Rattle.net_builder.specs.Progress.{AllGiven, IsFirstWithout, IsProgress, level_in, levels_at, one_given, one_of_gate, one_without}
use Rattle.net_builder.specs.Wiring.{FitsLines, IsWired}
use Rattle.net_builder.proofs.Counting.{below_greatest, no_part, some_part}
use Rattle.net_builder.proofs.Placing.{given_once, no_level_above, with_level, without_level}
use Rattle.net_builder.proofs.Wired.{gates_are, pins_are, reads_lines}

-- a line that waits is that of a gate without a level
waits_behind : (sources : ℕ) (levels : List ℕ) (line : ℕ) → one_without sources levels line ≢ 0 → sources ≤ line
waits_behind sources levels line waits = ⊎_elim (λ low. absurd (waits (none low))) (λ high. high) (cases_lt line sources)
  where
    none : line < sources → one_without sources levels line ≡ 0
    none low =
        let zero_of : one_of_gate sources line ≡ 0 = cond-true (ltb line sources) 0 1 (lt-ltb line sources low) in
        ⊎_elim
        (λ b. cond-true (eqb (level_in levels line) 0) (one_of_gate sources line) 0 (eq-eqb (level_in levels line) 0 b) ∙ zero_of)
        (λ b. with_level sources levels line b) (cases_eq (level_in levels line) 0)

waits_without : (sources : ℕ) (levels : List ℕ) (line : ℕ) → one_without sources levels line ≢ 0
    → level_in levels line ≡ 0
waits_without sources levels line waits =
    ⊎_elim (λ none. none) (λ some. absurd (waits (with_level sources levels line some)))
    (cases_eq (level_in levels line) 0)

module _ (sources : ℕ) (pins : List (List LineId)) (levels waits : List ℕ)
    (progress : IsProgress sources pins levels waits []) where
  -- no more levels are given than there are gates
  few_given : sum_by one_given levels ≤ length pins
  few_given =
      let low : sum_by one_given (take sources levels) ≤ length (take sources levels) * 0 =
      sum_by-le one_given 0 (take sources levels) no_source in
      let high = sum_by-le one_given 1 (drop sources levels) (λ k d within. given_once (get_or (drop sources levels) k d)) in
      omega (arith, low, high, sum_by-take-drop one_given levels sources, length-drop sources levels, progress.level_each)
    where
      no_source : All (λ x. one_given x ≤ 0) (take sources levels)
      no_source k d within =
          let here : k < sources = omega (arith, length-take sources levels) in
          let own = get_or-take sources levels k d here in
          let same = get_or_default levels k d 0 (omega (arith, length-take sources levels)) in
          omega (arith, ap one_given (own ∙ same ∙ progress.source_levels k here))

  module _ (lines : ℕ) (lines_are : lines ≡ sources + length pins) (fits : FitsLines lines pins) (c : Circuit)
      (wired : IsWired c lines pins) where
    -- sources and gates are numbered as in the circuit
    sources_are : source_count c ≡ sources
    sources_are = omega (arith, wired.line_total, gates_are c lines pins wired)

    line_of_gate : (gate : ℕ) → gate_line c gate ≡ sources + gate
    line_of_gate gate = omega (arith, sources_are)

    -- a pin reads a line that is within range
    read_within : (gate place : ℕ) (line : LineId) → gate < length pins
        → slice_get (slice_index_or pins gate []) place ≡ Some line → line.0 < sources + length pins
    read_within gate place line known at =
        let low = all_at_place (λ (l : LineId). l.0 < lines) (slice_index_or pins gate []) place line
        (fits.reads gate [] known) at in
        omega (arith, low, lines_are)

    -- a pin that reads the line of a gate reads the gate
    reads_at : (gate place : ℕ) (line : LineId) (next : ℕ) → slice_get (slice_index_or pins gate []) place ≡ Some line
        → line.0 ≡ gate_line c next → slice_get (pins_at c gate) place ≡ Some (record { 0 = gate_line c next })
    reads_at gate place line next at is =
        ap (λ l. slice_get l place) (pins_are c lines pins wired gate) ∙ at
        ∙ ap (λ (n : ℕ). Some (record { 0 = n })) is

    -- a gate without a level reads another one
    next_without : (gate : ℕ) → gate < length pins → level_in levels (sources + gate) ≡ 0
        → (next : ℕ) × (next < length pins) × (level_in levels (sources + next) ≡ 0) × ReadsGate c gate next
    next_without gate known none =
        let waits_some : slice_index waits gate ≢ 0 =
        λ idle. (let has = progress.awaited gate known idle none in omega (arith, has.1)) in
        let part = some_part (λ (line : LineId). one_without sources levels line.0) (slice_index_or pins gate [])
        (λ e. waits_some (progress.counted gate known ∙ e)) in
        let line = part.1 in
        let behind = waits_behind sources levels line.0 part.3 in
        let low = read_within gate part.0 line known part.2 in
        let next = line.0 - sources in
        let is : line.0 ≡ sources + next = omega arith in
        let own : line.0 ≡ gate_line c next = is ∙ sym (line_of_gate next) in
        let reads = reads_at gate part.0 line next part.2 own in
        (next, omega arith, ap (level_in levels) (sym is) ∙ waits_without sources levels line.0 part.3, (part.0, reads))

    -- so one can go back from it for ever
    back_from : (count gate : ℕ) → gate < length pins → level_in levels (sources + gate) ≡ 0
        → (more : List ℕ) × (length more ≡ count) × ReadsOn c (gate ∷ more)
    back_from zero gate known none = ([], refl, tt)
    back_from (suc count) gate known none =
        let next = next_without gate known none in
        let rest = back_from count next.0 next.1 next.2 in
        (next.0 ∷ rest.0, ap suc rest.1, (next.3, rest.2))

    looped : (gate : ℕ) → gate < length pins → level_in levels (sources + gate) ≡ 0 → IsLooped c gate
    looped gate known none = back_from (gate_count c) gate known none

    -- a gate with a level reads lines of lesser levels, and gates that have one
    next_lower : (gate next : ℕ) → gate < length pins → level_in levels (sources + gate) ≢ 0 → ReadsGate c gate next
        → (next < length pins) × (level_in levels (sources + next) ≢ 0)
        × (level_in levels (sources + next) < level_in levels (sources + gate))
    next_lower gate next known some reads =
        let placed = progress.placed gate known some in
        let own = slice_index_or pins gate [] in
        let line : LineId = record { 0 = sources + next } in
        let at : slice_get own reads.0 ≡ Some line =
        ap (λ l. slice_get l reads.0) (sym (pins_are c lines pins wired gate)) ∙ reads.1
        ∙ ap (λ (n : ℕ). Some (record { 0 = n })) (line_of_gate next) in
        let low = read_within gate reads.0 line known at in
        let idle = no_part (λ (l : LineId). one_without sources levels l.0) own reads.0 line placed.none_waits at in
        let lower = below_greatest (λ (l : LineId). level_in levels l.0) own reads.0 line at in (
          omega (arith, low),
          λ none. omega (arith, idle, without_level sources levels (sources + next) (omega arith) none),
          omega (arith, lower, placed.above),
        )

    -- so a chain of reads that goes back from it is shorter than its level
    short_back : (more : List ℕ) (gate : ℕ) → gate < length pins → level_in levels (sources + gate) ≢ 0
        → ReadsOn c (gate ∷ more) → length more < level_in levels (sources + gate)
    short_back [] gate known some reads =
        ⊎_elim (λ low. low) (λ none. absurd (some (omega arith))) (cases_lt 0 (level_in levels (sources + gate)))
    short_back (next ∷ more) gate known some reads =
        let lower = next_lower gate next known some reads.0 in
        omega (arith, lower.2, short_back more next lower.0 lower.1 reads.1)

    not_looped : (gate : ℕ) → gate < length pins → level_in levels (sources + gate) ≢ 0 → ¬ IsLooped c gate
    not_looped gate known some back =
        let short = short_back back.0 gate known some back.2 in
        let high = no_level_above sources pins levels waits [] progress (sources + gate) in
        omega (arith, short, high, back.1, few_given, gates_are c lines pins wired)

    -- the first gate without a level is the first that is looped
    pub first_looped : (gate : ℕ) → IsFirstWithout sources levels gate → IsFirstLooped c gate
    first_looped gate first =
        let known : gate < length pins = omega (arith, first.in_range, progress.level_each) in
        record {
          in_circuit = omega (arith, gates_are c lines pins wired);
          looped = looped gate known first.without;
          first = λ earlier below. not_looped earlier (omega arith) (first.first earlier below);
        }

    module _ (all_given : AllGiven sources levels) where
      -- where all gates have levels, none is looped
      pub loop_free : IsLoopFree c
      loop_free gate within =
          let known : gate < length pins = omega (arith, gates_are c lines pins wired) in
          not_looped gate known (all_given gate (omega (arith, progress.level_each)))

      -- and the levels are those of the circuit
      level_is : (line : ℕ) → line < line_count c → level c line ≡ level_in levels line
      level_is =
          line_induction c (reads_lines c lines pins wired fits) (λ line. level c line ≡ level_in levels line) at_source at_gate
          loop_free
        where
          at_source : (line : ℕ) → line < source_count c → level c line ≡ level_in levels line
          at_source line source =
              value_at_source c (λ source. 0) (λ gate levels. 1 + greatest levels) line source
              ∙ sym (progress.source_levels line (omega (arith, sources_are)))

          at_gate : (gate : ℕ) → gate < gate_count c → All (λ pin. level c pin.0 ≡ level_in levels pin.0) (pins_at c gate)
              → level c (gate_line c gate) ≡ level_in levels (gate_line c gate)
          at_gate gate within below =
              let known : gate < length pins = omega (arith, gates_are c lines pins wired) in
              let placed = progress.placed gate known (all_given gate (omega (arith, progress.level_each))) in
              value_at_gate c (λ source. 0) (λ gate levels. 1 + greatest levels) (reads_lines c lines pins wired fits) loop_free gate
              within
              ∙ ap (λ l. 1 + greatest l)
              (map_agree (λ (pin : LineId). level c pin.0) (λ (pin : LineId). level_in levels pin.0) (pins_at c gate) below)
              ∙ ap (λ l. 1 + greatest (levels_at levels l)) (pins_are c lines pins wired gate) ∙ sym placed.above
              ∙ ap (level_in levels) (sym (line_of_gate gate))

      pub levels_are : levels ≡ line_levels c
      levels_are =
          sym (ext_get_or 0 (line_levels c) levels
          (long ∙ (omega (arith, wired.line_total, lines_are, progress.level_each))) each)
        where
          long : length (line_levels c) ≡ line_count c
          long = length-map-range_with_len (level c) 0 (line_count c)

          each : (i : ℕ) → i < length (line_levels c) → get_or (line_levels c) i 0 ≡ get_or levels i 0
          each i within =
              get_or-map-range_with_len (level c) 0 (line_count c) i i 0 (omega (arith, long)) (omega arith)
              ∙ level_is i (omega (arith, long))
