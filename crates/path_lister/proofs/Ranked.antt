-- The sources and then the gates in rank order are all lines by level, so that a gate's line stands behind the lines that it reads.
use Rattle.std.proofs.Common.{◌≡◌, ◌≢◌, ⊎_elim, ℕ, ◌+◌, ◌-◌, ◌<◌, ◌≤◌, List, [], ◌∷◌, ◌++◌, length, length-append, map, get_or, Contains, sym, ap, subst, ◌∙◌, arith}
use Rattle.std.specs.List.{All, AllPairs, range_with_len}
use Rattle.std.proofs.lemmas.Bool.{cases_lt, cases_order}
use Rattle.std.proofs.lemmas.List.{get_or-map, get_or_default, length-map}
use Rattle.std.proofs.lemmas.List.FromFn.{get_or-map-range_with_len, get_or-range_with_len, length-map-range_with_len, length-range_with_len, map-range_with_len_more}
use Rattle.std.proofs.lemmas.List.Elements.{All-append, All-map, Contains-append_left, Contains-append_right}
use Rattle.pd_base.specs.declared.ids.GateId.{GateId}
use Rattle.pd_base.specs.declared.ids.LineId.{LineId}
use Rattle.pd_base.specs.declared.ids.PinRef.{PinRef}
use Rattle.netlist.specs.Circuit.{Circuit, gate_line, line_count, source_count}
use Rattle.netlist.specs.Greatest.{greatest}
use Rattle.netlist.specs.Lawful.{IsCircuit}
use Rattle.netlist.specs.Levels.{level, IsRankedBefore, IsRankOrder}
use Rattle.netlist.specs.Levels.IsRankedBefore.{lower_level, lesser_number}
use Rattle.netlist.specs.Pins.{IsPinOn}
use Rattle.netlist.proofs.Evaluation.{gate_line_of, value_at_source}
use Rattle.path_laws.proofs.Numbered.{few_by_number, pairs_map}
use Rattle.path_laws.proofs.StepCounts.{step_raises}
use Rattle.path_lister.specs.Ranking.{IsLineBefore, IsRanking, line_in}
use Rattle.path_lister.proofs.Counting.{all_numbers}
use Rattle.path_lister.proofs.Pairs.{pairs_append}

-- the line of a number
abbrev pub line_of : ℕ → LineId
line_of number = record { 0 = number }

-- the line of a gate
abbrev pub own_line : Circuit → GateId → LineId
own_line c gate = line_of (gate_line c gate.0)

-- the sources, and then the lines of these gates
abbrev pub ranked : Circuit → List GateId → List LineId
ranked c order = map line_of (range_with_len 0 (source_count c)) ++ map (own_line c) order

-- so many sources, and then the next one, are one more
pub source_more : (source : ℕ) (lines new : List LineId) → lines ≡ map line_of (range_with_len 0 source)
    → new ≡ lines ++ line_of source ∷ [] → new ≡ map line_of (range_with_len 0 (source + 1))
source_more source lines new listed pushed =
    pushed ∙ ap (λ (all : List LineId). all ++ line_of source ∷ []) listed
    ∙ sym (map-range_with_len_more line_of 0 source source (omega arith))

module _ (c : Circuit) where
  -- lines of different numbers on no lower level
  apart : (a b : LineId) → a.0 < b.0 → level c a.0 ≤ level c b.0 → IsLineBefore c a b
  apart a b less no_lower = record {
    differ = λ same. omega (arith, ap (λ (line : LineId). line.0) same);
    no_lower = no_lower;
  }

  -- a source is on level 0
  source_level : (source : ℕ) → source < source_count c → level c source ≡ 0
  source_level source within = value_at_source c (λ source. 0) (λ gate levels. 1 + greatest levels) source within

  -- the number of a source, by its place
  number_at : (k d : ℕ) → k < length (range_with_len 0 (source_count c)) → get_or (range_with_len 0 (source_count c)) k d ≡ k
  number_at k d within =
      omega (arith, get_or-range_with_len 0 (source_count c) k d (omega (arith, length-range_with_len 0 (source_count c))))

  -- the number of a source is below that of sources
  number_within : (k d : ℕ) → k < length (range_with_len 0 (source_count c))
      → get_or (range_with_len 0 (source_count c)) k d < source_count c
  number_within k d within = omega (arith, number_at k d within, length-range_with_len 0 (source_count c))

  -- the sources stand by number, all on one level
  sources_rise : AllPairs (IsLineBefore c) (map line_of (range_with_len 0 (source_count c)))
  sources_rise =
      let numbers = range_with_len 0 (source_count c) in
      pairs_map (IsLineBefore c) line_of 0 numbers
      (λ i j d before within.
      let inside : i < length numbers = omega arith in
      apart (line_of (get_or numbers i d)) (line_of (get_or numbers j d))
      (omega (arith, number_at i d inside, number_at j d within))
      (omega (
        arith,
        source_level (get_or numbers i d) (number_within i d inside),
        source_level (get_or numbers j d) (number_within j d within),
      )))

  -- gates of which one is ranked before the other have such lines
  gate_before : (a b : GateId) → IsRankedBefore c a b → IsLineBefore c (own_line c a) (own_line c b)
  gate_before a b (lower_level below) = record {
    differ = λ same. omega (arith, ap (λ (line : LineId). level c line.0) same);
    no_lower = omega arith;
  }
  gate_before a b (lesser_number same less) = apart (own_line c a) (own_line c b) (omega arith) (omega arith)

  module _ (order : List GateId) (rank : IsRankOrder c order) where
    -- each source stands before each gate
    sources_first : All (λ source. All (IsLineBefore c source) (map (own_line c) order))
        (map line_of (range_with_len 0 (source_count c)))
    sources_first =
        let numbers = range_with_len 0 (source_count c) in
        All-map (λ source. All (IsLineBefore c source) (map (own_line c) order)) line_of numbers
        (λ k d within.
        let source = get_or numbers k d in
        let below : source < source_count c = number_within k d within in
        All-map (IsLineBefore c (line_of source)) (own_line c) order
        (λ place gate inside.
        apart (line_of source) (own_line c (get_or order place gate)) (omega (arith, below))
        (omega (arith, source_level source below))))

    -- so all stand by level
    rising : AllPairs (IsLineBefore c) (ranked c order)
    rising =
        pairs_append (IsLineBefore c) (map line_of (range_with_len 0 (source_count c))) (map (own_line c) order)
        sources_rise
        (pairs_map (IsLineBefore c) (own_line c) (record { 0 = 0 }) order
        (λ i j d before within. gate_before (get_or order i d) (get_or order j d) (rank.rising i j d before within)))
        sources_first

    -- all are lines of the circuit
    in_circuit : All (λ line. line.0 < line_count c) (ranked c order)
    in_circuit =
        let numbers = range_with_len 0 (source_count c) in
        let IsLine : LineId → Type 0 = λ line. line.0 < line_count c in
        All-append IsLine (map line_of numbers) (map (own_line c) order)
        (All-map IsLine line_of numbers (λ k d within. omega (arith, number_within k d within)))
        (All-map IsLine (own_line c) order (λ k d within. omega (arith, rank.in_circuit k d within)))

    -- each source is among them
    has_source : (line : ℕ) → line < source_count c → Contains (ranked c order) (line_of line)
    has_source line within =
        let long = length-map-range_with_len line_of 0 (source_count c) in
        Contains-append_left (map line_of (range_with_len 0 (source_count c))) (map (own_line c) order) (line_of line)
        (line, omega (arith, long), get_or-map-range_with_len line_of 0 (source_count c) line line (line_of line) within (omega arith))

    -- and the line of each gate
    has_gate : (line : ℕ) → source_count c ≤ line → line < line_count c → Contains (ranked c order) (line_of line)
    has_gate line above within =
        let gate : GateId = record { 0 = line - source_count c } in
        let found = rank.whole (line - source_count c) (omega arith) in
        let long = length-map order (own_line c) in
        Contains-append_right (map line_of (range_with_len 0 (source_count c))) (map (own_line c) order) (line_of line) (
          found.0,
          omega (arith, found.1, long),
          get_or-map (own_line c) order found.0 gate (line_of line) found.1 ∙ ap (own_line c) found.2
              ∙ ap line_of (gate_line_of c line above),
        )

    -- so the sources and then the gates are all lines by level
    pub is_ranking : IsRanking c (ranked c order)
    is_ranking = record {
      rising = rising;
      in_circuit = in_circuit;
      whole = λ line within. ⊎_elim (has_source line) (λ above. has_gate line above within) (cases_lt line (source_count c));
    }

module _ (c : Circuit) (lines : List LineId) (ranking : IsRanking c lines) where
  -- lines at different places have different numbers
  pub numbers_differ : (i j : ℕ) → i < j → j < length lines → line_in lines i ≢ line_in lines j
  numbers_differ i j before within same =
      (ranking.rising i j (line_of 0) before within).differ (ap line_of same)

  -- each line has a place
  pub place_of_line : (line : ℕ) → line < line_count c
      → (place : ℕ) × (place < length lines) × (line_in lines place ≡ line)
  place_of_line line within =
      let found = ranking.whole line within in (
        found.0,
        found.1,
        ap (λ (l : LineId). l.0) (get_or_default lines found.0 (line_of 0) (line_of line) found.1 ∙ found.2),
      )

  -- there are as many as lines of the circuit
  pub ranking_length : length lines ≡ line_count c
  ranking_length = omega (arith, no_more, no_fewer)
    where
      no_more : length lines ≤ line_count c
      no_more =
          few_by_number (λ (line : LineId). line.0) (line_of 0) lines (line_count c)
          (λ i j d before within same. (ranking.rising i j d before within).differ (ap line_of same))
          ranking.in_circuit

      no_fewer : line_count c ≤ length lines
      no_fewer =
          let numbers = map (λ (line : LineId). line.0) lines in
          let long = length-map lines (λ (line : LineId). line.0) in
          let all = all_numbers numbers (line_count c)
          (λ line within. let found = place_of_line line within in (
            found.0,
            omega (arith, found.1, long),
            get_or-map (λ (l : LineId). l.0) lines found.0 (line_of 0) line found.1 ∙ found.2,
          )) in
          omega (arith, all, long)

  -- the line of a gate stands behind each line that it reads
  pub stands_behind : IsCircuit c → (pin : PinRef) (from to : ℕ) → from < length lines → to < length lines
      → IsPinOn c pin (line_in lines from) → line_in lines to ≡ gate_line c pin.gate.0 → from < to
  stands_behind circuit pin from to from_within to_within on own =
      ⊎_elim same (⊎_elim (λ before. before) behind) (cases_order from to)
    where
      raised : level c (line_in lines from) < level c (line_in lines to)
      raised =
          subst (λ line. level c (line_in lines from) < level c line) (sym own)
          (step_raises c circuit (line_in lines from) pin on)

      behind : to < from → from < to
      behind before = absurd (omega (arith, raised, (ranking.rising to from (line_of 0) before from_within).no_lower))

      same : from ≡ to → from < to
      same one = absurd (omega (arith, raised, ap (λ place. level c (line_in lines place)) one))

-- an order of all gates has as many as there are
pub gates_listed : (c : Circuit) (order : List GateId) → IsRankOrder c order → source_count c + length order ≡ line_count c
gates_listed c order rank =
    let lines = map line_of (range_with_len 0 (source_count c)) in
    omega (
      arith,
      ranking_length c (ranked c order) (is_ranking c order rank),
      length-append lines (map (own_line c) order),
      length-map-range_with_len line_of 0 (source_count c),
      length-map order (own_line c),
    )
