-- A replay gate by gate: after each turn the gate's line has its wave, as the sources and the earlier gates have theirs, and
-- the changes are counted. A gate that is refused has the first line that is too much.
use Rattle.std.proofs.Common.{◌≡◌, ⊎_elim, ℕ, ◌+◌, ◌-◌, ◌<◌, ◌≤◌, ℤ, pos, Bool, false, if◌then◌else◌, List, [], ◌∷◌, ◌++◌, map, take, take_all, drop, length, get_or, set, get_or-set_same, get_or-set_other, sym, ap, subst, subst₂, ◌∙◌, append_assoc, append-nil, arith, sum_by}
use Rattle.std.specs.Int.RustNames.{int_lt}
use Rattle.std.specs.List.{All, AllZip, Contains, range_with_len}
use Rattle.std.proofs.lemmas.Int.{ints}
use Rattle.std.proofs.lemmas.List.{get_or_default, take_more, drop_more, map-append, take-append-drop, get_or_append_left, length-append, length-set}
use Rattle.std.proofs.lemmas.List.Elements.{All-append, All-push, All-set, Contains-push_cases}
use Rattle.std.proofs.lemmas.List.FromFn.{length-range_with_len, get_or-range_with_len}
use Rattle.std.proofs.lemmas.List.Sums.{sum_by-le}
use Rattle.std.proofs.lemmas.Bool.{cases_lt, cases_eq}
use Rattle.std.proofs.lemmas.Option.{slice_get-get_or}
use Rattle.pd_base.specs.declared.ids.GateId.{GateId}
use Rattle.pd_base.specs.declared.ids.PinRef.{PinRef}
use Rattle.pd_base.specs.Pair.{Vectors}
use Rattle.netlist.specs.Circuit.{Circuit, source_count, gate_count, line_count, gate_line, kind_at, pins_at}
use Rattle.netlist.specs.Lawful.{IsCircuit}
use Rattle.netlist.specs.Levels.{IsRankOrder, IsDriven, ReadsEarlier}
use Rattle.netlist.specs.Levels.IsDriven.{by_source, by_gate}
use Rattle.netlist.specs.Values.{bit_of, gate_value, value}
use Rattle.netlist.specs.Waves.{Delays, Wave, PinCopy, source_wave, pin_values, delay_copy, wave_under, wave_of}
use Rattle.netlist.proofs.Evaluation.{map_agree, gate_line_of, value_at_gate}
use Rattle.path_laws.proofs.GateValues.{wave_of_source}
use Rattle.delay_annotation.specs.Annotation.{Fits, delays_of}
use Rattle.delay_annotation.specs.declared.delays.TheConstants.{MOST_DELAY}
use Rattle.delay_replay.specs.declared.gate.TheConstants.{MOST_CHANGES}
use Rattle.delay_replay.specs.Changes.{Changes, AreChangesOf, ChangesOver, IsBounded}
use Rattle.delay_replay.specs.GateWaves.{gate_wave, line_wave}
use Rattle.delay_replay.proofs.ChangeTimes.{not_over, over_same, shows_same}
use Rattle.delay_replay.specs.declared.line_waves.TheConstants.{MOST_CHANGES_OF_ALL}
use Rattle.delay_replay.specs.declared.line_waves.ReplayFault.{ReplayFault}
use Rattle.delay_replay.specs.declared.line_waves.ReplayFault.TheVariants.{TooManyChanges, NoMemory}
use Rattle.delay_replay.specs.LatestChange.{latest_change}
use Rattle.delay_replay.specs.LineWaves.{AreLineWaves, GoesBetween, kept_wave, no_changes}
use Rattle.delay_replay.specs.ChangeLimits.{HaveChanges, HasFewOf, IsFirstOf, IsTooMuch, NoneTooMuch, RefusesWaves, ranked_lines}
use Rattle.delay_replay.specs.ChangeLimits.IsTooMuch.{by_itself, together}
use Rattle.delay_replay.specs.ReplayTurns.{AreSourceWaves, AddsWaves, IsOver, RefusesGate}
use Rattle.delay_replay.specs.ReplayTurns.IsOver.{by_itself as over_by_itself, together as over_together}
use Rattle.delay_replay.proofs.EndValues.{early_choice, late_choice, wave_early, wave_late, goes_between, one_change, latest_small, small_delay}
use Rattle.delay_replay.proofs.ChangeCounts.{none_too_much, one_line_more, zip_from_places}

-- the wave of a source changes at time 0 at most
source_goes : (pair : Vectors) (source : ℕ) (changes : Changes) → AreChangesOf (source_wave pair source) changes
    → GoesBetween (bit_of pair.first source) (bit_of pair.second source) 0 changes
source_goes pair source changes are =
    let first = bit_of pair.first source in
    let last = bit_of pair.second source in
    goes_between (source_wave pair source) first last 0 changes (early_choice first last) (late_choice first last) are

-- a wave that goes from the bits of a source to the source's later bits is the source's
pub wave_of_bits : (pair : Vectors) (source : ℕ) (changes : Changes) {first last : Bool} → first ≡ bit_of pair.first source
    → last ≡ bit_of pair.second source → AreChangesOf (λ time. if int_lt time (pos 0) then first else last) changes
    → AreChangesOf (source_wave pair source) changes
wave_of_bits pair source changes early late are =
    subst₂ (λ first last. AreChangesOf (λ time. if int_lt time (pos 0) then first else last) changes) early late are

-- so it is bounded and changes once at most
source_bounded : (pair : Vectors) (source : ℕ) (changes : Changes) → AreChangesOf (source_wave pair source) changes
    → IsBounded changes
source_bounded pair source changes are i d within =
    let upto = ((source_goes pair source changes are).between i d within).to_bound in omega (arith, ints)

source_once : (pair : Vectors) (source : ℕ) (changes : Changes) → AreChangesOf (source_wave pair source) changes
    → length changes.times ≤ 1
source_once pair source changes are =
    one_change (bit_of pair.first source) (bit_of pair.second source) changes are.rising (source_goes pair source changes are)

-- the wave of a source whose bit stays does not change late either
pub still_bounded : (changes : Changes) → AreChangesOf (λ time. if int_lt time (pos 0) then false else false) changes
    → IsBounded changes
still_bounded changes are i d within =
    let goes = goes_between (λ time. if int_lt time (pos 0) then false else false) false false 0 changes
    (early_choice false false) (late_choice false false) are in
    let upto = (goes.between i d within).to_bound in
    omega (arith, ints)

module _ (c : Circuit) (pair : Vectors) (copy : PinCopy) where
  -- The sources and these gates have their waves, each line of them has few changes by itself, and together they have so many,
  -- which are few.
  pub record IsReplayed (gates : List GateId) (waves : List Changes) (total : ℕ) : Type 0 where
    pub one_each : length waves ≡ line_count c
    pub bounded : All IsBounded waves
    pub each : (line : ℕ) → IsDriven c gates line → AreChangesOf (wave_under copy c pair line) (kept_wave waves line)
    pub few : All (λ line. ChangesOver (wave_under copy c pair line) MOST_CHANGES → ⊥) (ranked_lines c gates)
    pub counted : HaveChanges (wave_under copy c pair) (ranked_lines c gates) total
    pub upto : total ≤ MOST_CHANGES_OF_ALL

  module _ (is : IsCircuit c) (sources : List Changes) (are : AreSourceWaves c pair sources) where
    -- each source's wave is its line's
    source_wave_of : (source : ℕ) → source < source_count c
        → AreChangesOf (wave_under copy c pair source) (kept_wave sources source)
    source_wave_of source within =
        shows_same (source_wave pair source) (wave_under copy c pair source) (kept_wave sources source)
        (λ time. sym (wave_of_source copy c pair source within time)) (are.each source within)

    -- a source's wave changes once at most
    once : (source : ℕ) → source < source_count c → length (kept_wave sources source).times ≤ 1
    once source within = source_once pair source (kept_wave sources source) (are.each source within)

    -- so all of them together change no more often than there are sources
    pub few_source_changes : sum_by (λ own. length own.times) sources ≤ source_count c
    few_source_changes =
        let each : All (λ own. length own.times ≤ 1) sources =
        λ i d within. subst (λ (own : Changes). length own.times ≤ 1) (get_or_default sources i no_changes d within)
        (once i (omega (arith, are.one_each))) in
        omega (arith, sum_by-le (λ (own : Changes). length own.times) 1 sources each, are.one_each)

    sources_bounded : All IsBounded sources
    sources_bounded i d within =
        subst IsBounded (get_or_default sources i no_changes d within)
        (source_bounded pair i (kept_wave sources i) (are.each i (omega (arith, are.one_each))))

    -- the lines of no gates are those of the sources
    sources_alone : range_with_len 0 (source_count c) ≡ ranked_lines c []
    sources_alone = sym (append-nil (range_with_len 0 (source_count c)))

    -- the number at a place of the sources
    source_at : (place d : ℕ) → place < source_count c → place ≡ get_or (range_with_len 0 (source_count c)) place d
    source_at place d within = omega (arith, get_or-range_with_len 0 (source_count c) place d within)

    module _ (waves : List Changes) (adds : AddsWaves (gate_count c) sources waves) where
      begun_each : (line : ℕ) → IsDriven c [] line → AreChangesOf (wave_under copy c pair line) (kept_wave waves line)
      begun_each line (by_gate gate (place, within, at) own) = absurd (omega arith)
      begun_each line (by_source source) =
          subst (λ own. AreChangesOf (wave_under copy c pair line) own)
          (sym (ap (λ all. kept_wave all line) adds.behind
          ∙ get_or_append_left sources adds.added no_changes line (omega (arith, are.one_each))))
          (source_wave_of line source)

      -- before the first turn the sources have their waves
      pub begun : (total : ℕ) → total ≡ sum_by (λ own. length own.times) sources → IsReplayed [] waves total
      begun total sum = record {
        one_each = ap length adds.behind ∙ length-append sources adds.added ∙ omega (arith, are.one_each, adds.so_many);
        bounded = subst (All IsBounded) (sym adds.behind)
            (All-append IsBounded sources adds.added sources_bounded adds.bounded);
        each = begun_each;
        few = subst (All (λ line. ChangesOver (wave_under copy c pair line) MOST_CHANGES → ⊥)) sources_alone
            (λ place d within.
            let inside : place < source_count c = omega (arith, length-range_with_len 0 (source_count c)) in
            subst (λ line. ChangesOver (wave_under copy c pair line) MOST_CHANGES → ⊥) (source_at place d inside)
            (not_over (wave_under copy c pair place) (kept_wave sources place) MOST_CHANGES (source_wave_of place inside)
            (omega (arith, once place inside))));
        counted = record {
          changes = sources;
          each = subst (λ lines. AllZip (λ line own. AreChangesOf (wave_under copy c pair line) own) lines sources) sources_alone
              (zip_from_places (λ line own. AreChangesOf (wave_under copy c pair line) own)
              (range_with_len 0 (source_count c)) sources (length-range_with_len 0 (source_count c) ∙ sym are.one_each)
              (λ place d e within.
              let inside : place < source_count c = omega (arith, length-range_with_len 0 (source_count c)) in
              subst (λ line. AreChangesOf (wave_under copy c pair line) (get_or sources place e)) (source_at place d inside)
              (subst (λ own. AreChangesOf (wave_under copy c pair place) own)
              (get_or_default sources place no_changes e (omega (arith, are.one_each))) (source_wave_of place inside))));
          sum = sym sum;
        };
        upto = omega (arith, few_source_changes, is.few_lines);
      }

  -- one gate more is one line more
  ranked_more : (gates : List GateId) (gate : GateId)
      → ranked_lines c (gates ++ gate ∷ []) ≡ ranked_lines c gates ++ gate_line c gate.0 ∷ []
  ranked_more gates gate =
      ap (λ lines. range_with_len 0 (source_count c) ++ lines) (map-append (λ (g : GateId). gate_line c g.0) gates (gate ∷ []))
      ∙ sym (append_assoc (range_with_len 0 (source_count c)) (map (λ (g : GateId). gate_line c g.0) gates)
      (gate_line c gate.0 ∷ []))

  module _ (is : IsCircuit c)
      (small : (line : ℕ) → line < line_count c → (changes : Changes) → AreChangesOf (wave_under copy c pair line) changes → IsBounded changes) where
    module _ (order : List GateId) (ranked : IsRankOrder c order) (earlier : ReadsEarlier c order) where
      -- after the last turn each line has its wave
      pub all_waves : (place : ℕ) → length order ≤ place → (waves : List Changes) (total : ℕ)
          → IsReplayed (take place order) waves total → AreLineWaves c (wave_under copy c pair) waves
      all_waves place last waves total replayed = record { one_each = replayed.one_each; each = at_line }
        where
          at_line : (line : ℕ) → line < line_count c → AreChangesOf (wave_under copy c pair line) (kept_wave waves line)
          at_line line within =
              ⊎_elim (λ source. replayed.each line (by_source source))
              (λ above.
              let gate = line - source_count c in
              let found : Contains order (record { 0 = gate }) = ranked.whole gate (omega arith) in
              let among = subst (λ gates. Contains gates (record { 0 = gate })) (sym (take_all place order last)) found in
              replayed.each line (by_gate gate among (sym (gate_line_of c line above))))
              (cases_lt line (source_count c))

      -- and no line is too much
      pub all_few : (place : ℕ) → length order ≤ place → (waves : List Changes) (total : ℕ)
          → IsReplayed (take place order) waves total → HasFewOf c (wave_under copy c pair)
      all_few place last waves total replayed = record {
        order = order;
        ranked = ranked;
        none = subst (λ gates. NoneTooMuch (wave_under copy c pair) (ranked_lines c gates)) (take_all place order last)
            (none_too_much (wave_under copy c pair) (ranked_lines c (take place order)) total replayed.few replayed.counted
            replayed.upto);
      }

      module _ (place : ℕ) (inside : place < length order) where
        -- the gate whose turn it is
        abbrev gate : GateId
        gate = get_or order place (record { 0 = 0 })

        -- its line
        abbrev own_line : ℕ
        own_line = gate_line c gate.0

        in_circuit : gate.0 < gate_count c
        in_circuit = ranked.in_circuit place (record { 0 = 0 }) inside

        -- with it the first gates are one more
        pub turn_more : ranked_lines c (take (place + 1) order) ≡ ranked_lines c (take place order) ++ own_line ∷ []
        turn_more = ap (ranked_lines c) (take_more order place (record { 0 = 0 }) inside) ∙ ranked_more (take place order) gate

        module _ (waves : List Changes) (total : ℕ) (replayed : IsReplayed (take place order) waves total) where
          -- the waves of its pins' lines are there
          pins_shown : All (λ pin. line_wave waves pin.0 ≡ wave_under copy c pair pin.0) (pins_at c gate.0)
          pins_shown k d within =
              let pin = get_or (pins_at c gate.0) k d in
              let are = replayed.each pin.0
              (earlier place gate (slice_get-get_or order place (record { 0 = 0 }) inside) k d within) in
              λ i time. are.shows time i

          -- so what the gate makes of them is the wave of its line
          turn_wave : (time : ℤ) → gate_wave copy c gate.0 (line_wave waves) time
              ≡ wave_under copy c pair own_line time
          turn_wave time =
              ap (λ (waves : List Wave). gate_value (kind_at c gate.0) (pin_values copy gate.0 0 waves time))
              (map_agree (λ pin. line_wave waves pin.0) (λ pin. wave_under copy c pair pin.0) (pins_at c gate.0) pins_shown)
              ∙ sym (ap (λ (wave : Wave). wave time) (value_at_gate c (source_wave pair)
              (λ gate waves time. gate_value (kind_at c gate) (pin_values copy gate 0 waves time))
              is.reads_lines is.loop_free gate.0 in_circuit))

          module _ (own : Changes) (are : AreChangesOf (gate_wave copy c gate.0 (line_wave waves)) own) where
            own_are : AreChangesOf (wave_under copy c pair own_line) own
            own_are = shows_same _ (wave_under copy c pair own_line) own turn_wave are

            -- once it is put there, each line of a source or of one of the gates up to this one has its wave
            turned_each : (line : ℕ) → IsDriven c (take (place + 1) order) line
                → AreChangesOf (wave_under copy c pair line) (kept_wave (set waves own_line own) line)
            turned_each line driven =
                ⊎_elim
                (λ same. subst (λ l. AreChangesOf (wave_under copy c pair l) (kept_wave (set waves own_line own) l)) (sym same)
                (subst (λ ch. AreChangesOf (wave_under copy c pair own_line) ch)
                (sym (get_or-set_same waves own_line own no_changes (omega (arith, replayed.one_each, in_circuit)))) own_are))
                (λ differs. subst (λ ch. AreChangesOf (wave_under copy c pair line) ch)
                (sym (get_or-set_other waves own_line line own no_changes differs))
                (replayed.each line (before differs driven)))
                (cases_eq line own_line)
              where
                before : (line ≡ own_line → ⊥) → IsDriven c (take (place + 1) order) line → IsDriven c (take place order) line
                before differs (by_source source) = by_source source
                before differs (by_gate other among its) =
                    ⊎_elim (λ was. by_gate other was its)
                    (λ this. absurd (differs (its ∙ ap (λ (g : GateId). gate_line c g.0) (sym this))))
                    (Contains-push_cases (take place order) gate (record { 0 = other })
                    (subst (λ gates. Contains gates (record { 0 = other }))
                    (take_more order place (record { 0 = 0 }) inside) among))

            -- the turn of a gate
            pub turned : length own.times ≤ MOST_CHANGES → total + length own.times ≤ MOST_CHANGES_OF_ALL
                → IsReplayed (take (place + 1) order) (set waves own_line own) (total + length own.times)
            turned few upto = record {
              one_each = length-set waves own_line own ∙ replayed.one_each;
              bounded = All-set IsBounded waves own_line own
                  (small own_line (omega (arith, in_circuit)) own own_are) replayed.bounded;
              each = turned_each;
              few = subst (All (λ line. ChangesOver (wave_under copy c pair line) MOST_CHANGES → ⊥)) (sym turn_more)
                  (All-push (λ line. ChangesOver (wave_under copy c pair line) MOST_CHANGES → ⊥)
                  (ranked_lines c (take place order)) own_line replayed.few (not_over (wave_under copy c pair own_line) own MOST_CHANGES own_are few));
              counted = subst (λ lines. HaveChanges (wave_under copy c pair) lines (total + length own.times)) (sym turn_more)
                  (one_line_more (wave_under copy c pair) (ranked_lines c (take place order)) own_line total own replayed.counted
                  own_are);
              upto = upto;
            }

          -- its line stands behind those of the gates before it, among all lines
          turn_place : ranked_lines c (take place order) ++ own_line ∷ map (λ g. gate_line c g.0) (drop (place + 1) order)
              ≡ ranked_lines c order
          turn_place =
              append_assoc (range_with_len 0 (source_count c)) (map (λ (g : GateId). gate_line c g.0) (take place order))
              (map (λ (g : GateId). gate_line c g.0) (gate ∷ drop (place + 1) order))
              ∙ ap (λ lines. range_with_len 0 (source_count c) ++ lines)
              (sym (map-append (λ (g : GateId). gate_line c g.0) (take place order) (gate ∷ drop (place + 1) order))
              ∙ ap (λ gates. map (λ (g : GateId). gate_line c g.0) (take place order ++ gates))
              (sym (drop_more order place (record { 0 = 0 }) inside))
              ∙ ap (map (λ (g : GateId). gate_line c g.0)) (take-append-drop place order))

          -- so it is the first one that is too much, where it is
          first_too_much : IsTooMuch (wave_under copy c pair) (ranked_lines c (take place order)) own_line
              → IsFirstOf c (wave_under copy c pair) own_line
          first_too_much much = record {
            order = order;
            ranked = ranked;
            earlier = ranked_lines c (take place order);
            later = map (λ g. gate_line c g.0) (drop (place + 1) order);
            place = turn_place;
            none_before = none_too_much (wave_under copy c pair) (ranked_lines c (take place order)) total replayed.few
                replayed.counted replayed.upto;
            too_much = much;
          }

          over_much : IsOver (gate_wave copy c gate.0 (line_wave waves)) total
              → IsTooMuch (wave_under copy c pair) (ranked_lines c (take place order)) own_line
          over_much (over_by_itself over) = by_itself (over_same _ (wave_under copy c pair own_line) MOST_CHANGES turn_wave over)
          over_much (over_together own are more) =
              together (total + length own.times)
              (one_line_more (wave_under copy c pair) (ranked_lines c (take place order)) own_line total own replayed.counted
              (shows_same _ (wave_under copy c pair own_line) own turn_wave are)) more

          -- a turn that is refused refuses the replay
          pub turn_refused : (fault : ReplayFault)
              → RefusesGate (gate_wave copy c gate.0 (line_wave waves)) own_line total fault
              → RefusesWaves c (wave_under copy c pair) fault
          turn_refused (NoMemory _) refuses = tt
          turn_refused (TooManyChanges line) refuses =
              subst (IsFirstOf c (wave_under copy c pair)) (sym refuses.0) (first_too_much (over_much refuses.1))

module _ (c : Circuit) (pair : Vectors) (delays : Delays) (is : IsCircuit c) where
  -- a wave of a line goes from its value under the first vector to its value under the second
  pub line_goes : (line : ℕ) → line < line_count c → (changes : Changes)
      → AreChangesOf (wave_of c pair delays line) changes
      → GoesBetween (value c pair.first line) (value c pair.second line) (latest_change c delays line) changes
  line_goes line within changes =
      goes_between (wave_of c pair delays line) (value c pair.first line) (value c pair.second line)
      (latest_change c delays line) changes (wave_early delays c pair line) (wave_late delays c is pair line within)

  -- and is bounded where the delays are
  pub line_bounded : ((pin : PinRef) → delays pin ≤ MOST_DELAY) → (line : ℕ) → line < line_count c → (changes : Changes)
      → AreChangesOf (wave_of c pair delays line) changes → IsBounded changes
  line_bounded small line within changes are i d inside =
      let upto = ((line_goes line within changes are).between i d inside).to_bound in
      let latest = latest_small c is delays small line within in
      omega (arith, ints)

-- so the waves of a delay model of one delay are bounded
pub delays_bounded : (kept : List ℕ) (c : Circuit) → IsCircuit c → Fits c kept → (pair : Vectors) (line : ℕ) → line < line_count c
    → (changes : Changes) → AreChangesOf (wave_under (delay_copy (delays_of c kept)) c pair line) changes → IsBounded changes
delays_bounded kept c is fits pair = line_bounded c pair (delays_of c kept) is (small_delay c kept fits)
