-- Gates that use only names that stand before their own: each name that they use is known, and the circuit has no loop and at most as many
-- levels as gates.
use Rattle.std.proofs.Common.{◌≡◌, ◌+◌, ◌-◌, ◌<◌, ◌≤◌, ℕ, zero, suc, true, false, true≢false, List, [], ◌∷◌, ◌++◌, length, map, get_or, Some, append_assoc, inl, inr, refl, sym, ◌∙◌, subst, arith}
use Rattle.std.specs.Prelude.{if◌then◌else◌, nat_lt, slice_get}
use Rattle.std.specs.List.{All, Contains, position_or_len, range_with_len}
use Rattle.std.specs.Str.{bytes_eq}
use Rattle.std.proofs.lemmas.Bool.{cases_lt}
use Rattle.std.proofs.lemmas.List.{get_or_append_left, get_or-map, length-append, length-map}
use Rattle.std.proofs.lemmas.List.Elements.{All-append, All-nil, All-weaker, Contains-append_left}
use Rattle.std.proofs.lemmas.List.Sums.{fails_before_first}
use Rattle.std.proofs.lemmas.Option.{same_Some, slice_get_within, slice_get-get_or}
use Rattle.std.proofs.lemmas.Slice.Eq.{bytes_eq-Decides}
use Rattle.pd_base.specs.declared.ids.LineId.{LineId}
use Rattle.netlist.specs.Circuit.{Circuit, gate_count, gate_line, line_count, no_gate, pins_at, source_count}
use Rattle.netlist.specs.Description.{NamedGate, gate_on, line_named}
use Rattle.netlist.specs.Evaluation.{value_within}
use Rattle.netlist.specs.Greatest.{greatest}
use Rattle.netlist.specs.Lawful.{IsLoopFree, ReadsOn}
use Rattle.netlist.specs.Levels.{greatest_level, level}
use Rattle.ladder.proofs.Stating.{all_arguments, circuit, names}

-- each gate uses only names that are known or those of gates before it
abbrev pub UseEarlier : List (List ℕ) → List NamedGate → Type 0
UseEarlier known [] = Unit {0}
UseEarlier known (gate ∷ list) = All (Contains known) gate.arguments × UseEarlier (known ++ gate.name ∷ []) list

-- the names of gates
abbrev names_of_gates : List NamedGate → List (List ℕ)
names_of_gates list = map (λ gate. gate.name) list

-- so each name that is used is known, or that of a gate
pub uses_known : (known : List (List ℕ)) (list : List NamedGate) → UseEarlier known list
    → All (Contains (known ++ names_of_gates list)) (all_arguments list)
uses_known known [] uses = All-nil (Contains (known ++ []))
uses_known known (gate ∷ list) uses =
    let all = known ++ gate.name ∷ names_of_gates list in
    All-append (Contains all) gate.arguments (all_arguments list)
    (All-weaker (Contains known) (Contains all) (λ name. Contains-append_left known (gate.name ∷ names_of_gates list) name) gate.arguments uses.0)
    (subst (λ (names : List (List ℕ)). All (Contains names) (all_arguments list)) (append_assoc known (gate.name ∷ []) (names_of_gates list))
    (uses_known (known ++ gate.name ∷ []) list uses.1))

-- a name among the first ones is found there
found_before : (known rest : List (List ℕ)) (name : List ℕ) → Contains known name
    → position_or_len (bytes_eq name) (known ++ rest) < length known
found_before known rest name has =
    elim (cases_lt has.0 (position_or_len (bytes_eq name) (known ++ rest))) [
      | inl before ↦
          let fails = fails_before_first (bytes_eq name) (known ++ rest) has.0 name before in
          let here : get_or (known ++ rest) has.0 name ≡ name = get_or_append_left known rest name has.0 has.1 ∙ has.2 in
          absurd (true≢false (sym ((bytes_eq-Decides name (get_or (known ++ rest) has.0 name)).1 (sym here)) ∙ fails))
      | inr behind ↦ let within = has.1 in omega arith
    ]

-- the lines of these names stand among the first lines
lines_before : (known rest arguments : List (List ℕ)) (pin : ℕ) (line : LineId) → All (Contains known) arguments
    → slice_get (map (line_named (known ++ rest)) arguments) pin ≡ Some line → line.0 < length known
lines_before known rest arguments pin line uses reads =
    let line_of = line_named (known ++ rest) in
    let inside = slice_get_within (map line_of arguments) pin line reads in
    let long = length-map arguments line_of in
    let within : pin < length arguments = omega (arith, inside, long) in
    let is : get_or (map line_of arguments) pin line ≡ line =
    same_Some _ _ (sym (slice_get-get_or (map line_of arguments) pin line inside) ∙ reads) in
    let name = get_or arguments pin [] in
    let same : line_of name ≡ line = sym (get_or-map line_of arguments pin [] line within) ∙ is in
    subst (λ (found : LineId). found.0 < length known) same (found_before known rest name (uses pin [] within))

-- the gate of this number, behind the names that are known
abbrev gate_pins : (all : List (List ℕ)) (list : List NamedGate) (gate : ℕ) → List LineId
gate_pins all list gate = (get_or (map (gate_on all) list) gate no_gate).pins

reads_before : (all known : List (List ℕ)) (list : List NamedGate) (gate pin : ℕ) (line : LineId) → all ≡ known ++ names_of_gates list
    → UseEarlier known list → slice_get (gate_pins all list gate) pin ≡ Some line → line.0 < length known + gate
reads_before all known [] gate pin line is uses reads = absurd (omega (arith, slice_get_within [] pin line reads))
reads_before all known (first ∷ list) zero pin line is uses reads =
    let moved = subst (λ (names : List (List ℕ)). slice_get (map (line_named names) first.arguments) pin ≡ Some line) is reads in
    let below = lines_before known (first.name ∷ names_of_gates list) first.arguments pin line uses.0 moved in
    omega (arith, below)
reads_before all known (first ∷ list) (suc gate) pin line is uses reads =
    let behind = known ++ first.name ∷ [] in
    let long = length-append known (first.name ∷ []) in
    let below = reads_before all behind list gate pin line (is ∙ sym (append_assoc known (first.name ∷ []) (names_of_gates list))) uses.1 reads in
    omega (arith, below, long)

-- no number is above a bound of each
greatest_below : {X : Type 0} (number : X → ℕ) (bound : ℕ) → ((x : X) → number x ≤ bound) → (xs : List X) → greatest (map number xs) ≤ bound
greatest_below number bound below [] = omega arith
greatest_below number bound below (x ∷ xs) =
    let rest = greatest_below number bound below xs in
    let here = below x in
    omega (arith, rest, here)

module _ (c : Circuit) where
  -- a level that is found by looking back through so many gates is no greater
  abbrev level_within : ℕ → ℕ → ℕ
  level_within gates line = value_within c (λ source. 0) (λ gate levels. 1 + greatest levels) gates line

  few_within : (gates line : ℕ) → level_within gates line ≤ gates
  few_within zero line = omega arith
  few_within (suc gates) line =
      let pins = pins_at c (line - source_count c) in
      let rest = greatest_below (λ (pin : LineId). level_within gates pin.0) gates (λ pin. few_within gates pin.0) pins in
      elim (nat_lt line (source_count c)) as (λ is_source. (if is_source then 0 else 1 + greatest (map (λ pin. level_within gates pin.0) pins)) ≤ suc gates) [
        | true ↦ omega arith
        | false ↦ omega (arith, rest)
      ]

  -- there are no more levels than gates
  pub levels_within_gates : greatest_level c ≤ gate_count c
  levels_within_gates = greatest_below (level c) (gate_count c) (λ line. few_within (gate_count c) line) (range_with_len 0 (line_count c))

module _ (output : List ℕ) (list : List NamedGate) (sources : List (List ℕ)) (uses : UseEarlier sources list) where
  abbrev c : Circuit
  c = circuit output list sources

  -- a way back leads to lesser and lesser gates
  steps_back : (gate : ℕ) (more : List ℕ) → ReadsOn c (gate ∷ more) → length more ≤ gate
  steps_back gate [] reads = omega arith
  steps_back gate (next ∷ more) reads =
      let below = reads_before (names output list sources) sources list gate reads.0.0 (record { 0 = gate_line c next }) refl uses reads.0.1 in
      let rest = steps_back next more reads.1 in
      omega (arith, below, rest)

  -- so there is no loop
  pub loop_free : IsLoopFree c
  loop_free gate within looped =
      let few = steps_back gate looped.0 looped.2 in
      let all = looped.1 in
      omega (arith, few, all)
