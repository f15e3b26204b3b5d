-- Statements whose names are each defined once and all defined, with no loop and few levels, describe a lawful circuit.
use Rattle.std.proofs.Common.{◌≡◌, inl, inr, ℕ, ◌+◌, ◌-◌, ◌<◌, ◌≤◌, true≢false, List, [], ◌∷◌, ◌++◌, length, map, get_or, refl, sym, ap, subst, ◌∙◌, arith}
use Rattle.std.specs.List.{All, Contains, flat_map, position_or_len, range_with_len, sum_by}
use Rattle.std.specs.Str.{bytes_eq}
use Rattle.std.proofs.lemmas.Bool.{cases_lt}
use Rattle.std.proofs.lemmas.List.{ext_get_or, get_or_append_left, get_or-append-add, get_or-map, length-append, length-map}
use Rattle.std.proofs.lemmas.List.Elements.{All-append, All-cons, All-head, All-map, All-nil, All-tail, All-weaker}
use Rattle.std.proofs.lemmas.List.FromFn.{get_or-range_with_len, length-range_with_len}
use Rattle.std.proofs.lemmas.List.Sorted.{All-permutation}
use Rattle.std.proofs.lemmas.List.Sums.{fails_before_first, position_or_len_is, sum_by-append, sum_by-cons}
use Rattle.std.proofs.lemmas.Simd.{map-map}
use Rattle.std.proofs.lemmas.Slice.Eq.{bytes_eq-Decides}
use Rattle.std.proofs.lemmas.Bool.{false_from_ne_true}
use Rattle.pd_base.specs.declared.ids.LineId.{LineId}
use Rattle.netlist.specs.declared.raw_net.RawStmt.{RawStmt}
use Rattle.netlist.specs.declared.raw_net.RawStmt.TheVariants.{Input, Output, Gate, Flop}
use Rattle.netlist.specs.declared.limits.TheConstants.{MOST_LEVELS}
use Rattle.netlist.specs.Circuit.{Circuit, Gate as GateOf, HasLines, data_lines, line_count, line_names, no_gate, source_count}
use Rattle.netlist.specs.Description.{AreNamed, NamedFlop, NamedGate, defined_names, definitions, described, flop_in, flop_on, flops, gate_in, gate_on, gates, inputs, line_named, names_by_line, output_in, outputs, source_names, stated_pins}
use Rattle.netlist.specs.Lawful.{IsCircuit, IsFanIn, IsLoopFree}
use Rattle.netlist.specs.Levels.{greatest_level}
use Rattle.netlist.specs.Names.{IsName}
use Rattle.netlist.specs.Pins.{pin_total}
use Rattle.netlist.specs.Statements.{IsStatement, Numbered, defined_by, used_by}
use Rattle.netlist.proofs.CircuitLines.{distinct_lines-once, each_distinct, line_names-length}
use Rattle.net_builder.proofs.ByLine.{Differ, as_many_lines, is_line, lines_differ, reordered}
use Rattle.net_builder.proofs.Exclusive.{names_of_definitions}

module _ {X A : Type 0} (P : A → Type 0) (f : X → List A) where
  -- what holds of each piece holds of all together
  pub all_flat : (xs : List X) → All (λ x. All P (f x)) xs → All P (flat_map f xs)
  all_flat [] all = All-nil P
  all_flat (x ∷ xs) all =
      let Each = λ (x : X). All P (f x) in
      All-append P (f x) (flat_map f xs) (All-head Each x xs all) (all_flat xs (All-tail Each x xs all))

  -- and the other way round
  pub all_pieces : (xs : List X) → All P (flat_map f xs) → All (λ x. All P (f x)) xs
  all_pieces [] all = All-nil (λ x. All P (f x))
  all_pieces (x ∷ xs) all =
      let long = length-append (f x) (flat_map f xs) in
      let front : All P (f x) = λ k d within. subst P (get_or_append_left (f x) (flat_map f xs) d k within) (all k d (omega arith)) in
      let rest : All P (flat_map f xs) =
      λ k d within. subst P (get_or-append-add (f x) (flat_map f xs) k d) (all (length (f x) + k) d (omega arith)) in
      All-cons (λ x. All P (f x)) x xs front (all_pieces xs rest)

-- a sum over pieces
sum_flat : {X A : Type 0} (n : A → ℕ) (f : X → List A) (xs : List X)
    → sum_by n (flat_map f xs) ≡ sum_by (λ x. sum_by n (f x)) xs
sum_flat n f [] = refl
sum_flat n f (x ∷ xs) =
    sum_by-append n (f x) (flat_map f xs) ∙ ap (λ m. sum_by n (f x) + m) (sum_flat n f xs)
    ∙ sym (sum_by-cons (λ x. sum_by n (f x)) x xs)

-- a sum over images
sum_mapped : {X A : Type 0} (n : A → ℕ) (m : X → ℕ) (f : X → A) → ((x : X) → n (f x) ≡ m x) → (xs : List X)
    → sum_by n (map f xs) ≡ sum_by m xs
sum_mapped n m f same [] = refl
sum_mapped n m f same (x ∷ xs) =
    sum_by-cons n (f x) (map f xs) ∙ (λ i. same x i + sum_mapped n m f same xs i) ∙ sym (sum_by-cons m x xs)

-- the names that a lawful statement defines are names
defined_lawful : (s : RawStmt) → IsStatement s → All IsName (defined_by s)
defined_lawful (Input name) is = All-cons IsName name [] is (All-nil IsName)
defined_lawful (Output name) is = All-nil IsName
defined_lawful (Gate name kind arguments) is = All-cons IsName name [] is.own_name (All-nil IsName)
defined_lawful (Flop name data_line) is = All-cons IsName name [] is.own_name (All-nil IsName)

-- as many arguments as the kind may have
abbrev HasFanIn : NamedGate → Type 0
HasFanIn gate = IsFanIn gate.kind (length gate.arguments)

gate_lawful : (s : RawStmt) → IsStatement s → All HasFanIn (gate_in s)
gate_lawful (Input name) is = All-nil HasFanIn
gate_lawful (Output name) is = All-nil HasFanIn
gate_lawful (Gate name kind arguments) is =
    let gate : NamedGate = record { name = name; kind = kind; arguments = arguments } in
    All-cons HasFanIn gate [] is.fan_in (All-nil HasFanIn)
gate_lawful (Flop name data_line) is = All-nil HasFanIn

module _ (P : List ℕ → Type 0) where
  -- what holds of the names that a statement uses holds of the arguments of its gate
  gate_uses : (s : RawStmt) → All P (used_by s) → All (λ gate. All P gate.arguments) (gate_in s)
  gate_uses (Input name) all = All-nil (λ gate. All P gate.arguments)
  gate_uses (Output name) all = All-nil (λ gate. All P gate.arguments)
  gate_uses (Gate name kind arguments) all =
      let gate : NamedGate = record { name = name; kind = kind; arguments = arguments } in
      All-cons (λ (g : NamedGate). All P g.arguments) gate [] all (All-nil (λ (g : NamedGate). All P g.arguments))
  gate_uses (Flop name data_line) all = All-nil (λ gate. All P gate.arguments)

  -- of the data line of its flip-flop
  flop_uses : (s : RawStmt) → All P (used_by s) → All (λ flop. P flop.data_name) (flop_in s)
  flop_uses (Input name) all = All-nil (λ flop. P flop.data_name)
  flop_uses (Output name) all = All-nil (λ flop. P flop.data_name)
  flop_uses (Gate name kind arguments) all = All-nil (λ flop. P flop.data_name)
  flop_uses (Flop name data_line) all =
      let flop : NamedFlop = record { name = name; data_name = data_line } in
      All-cons (λ (f : NamedFlop). P f.data_name) flop [] (All-head P data_line [] all) (All-nil (λ (f : NamedFlop). P f.data_name))

  -- and of its output
  output_uses : (s : RawStmt) → All P (used_by s) → All P (output_in s)
  output_uses (Input name) all = All-nil P
  output_uses (Output name) all = all
  output_uses (Gate name kind arguments) all = All-nil P
  output_uses (Flop name data_line) all = All-nil P

-- a name that stands among some has a place there
pub place_within : (names : List (List ℕ)) (name : List ℕ) → Contains names name → position_or_len (bytes_eq name) names < length names
place_within names name has =
    elim (cases_lt (position_or_len (bytes_eq name) names) (length names)) [
      | inl within ↦ within
      | inr past ↦
          let fails = fails_before_first (bytes_eq name) names has.0 name (omega (arith, has.1)) in
          let same = (bytes_eq-Decides name (get_or names has.0 name)).1 (sym has.2) in
          absurd (true≢false (sym same ∙ fails))
    ]

-- names that differ stand at their places alone
place_again : (names : List (List ℕ)) (place : ℕ) → Differ names → place < length names
    → position_or_len (bytes_eq (get_or names place [])) names ≡ place
place_again names place differ below =
    position_or_len_is (bytes_eq (get_or names place [])) names place [] (omega arith)
    (λ k less. false_from_ne_true (bytes_eq (get_or names place []) (get_or names k []))
    (λ same. differ k place [] less below (sym ((bytes_eq-Decides (get_or names place []) (get_or names k [])).0 same))))
    (λ _. (bytes_eq-Decides (get_or names place []) (get_or names place [])).1 refl)

-- so names in the middle of a list have numbers that run on
numbers_run_on : (front some back : List (List ℕ)) → Differ ((front ++ some) ++ back)
    → map (λ name. position_or_len (bytes_eq name) ((front ++ some) ++ back)) some ≡ range_with_len (length front) (length some)
numbers_run_on front some back differ =
    let all = (front ++ some) ++ back in
    let number = λ (name : List ℕ). position_or_len (bytes_eq name) all in
    let long = length-map some number in
    let ranged = length-range_with_len (length front) (length some) in
    ext_get_or 0 (map number some) (range_with_len (length front) (length some)) (omega arith) (λ i within.
    let below : i < length some = omega arith in
    let long_all = length-append (front ++ some) back in
    let long_front = length-append front some in
    let here : get_or all (length front + i) [] ≡ get_or some i [] =
    get_or_append_left (front ++ some) back [] (length front + i) (omega arith) ∙ get_or-append-add front some i [] in
    get_or-map number some i [] 0 below
    ∙ ap number (sym here) ∙ place_again all (length front + i) differ (omega arith)
    ∙ sym (get_or-range_with_len (length front) (length some) i 0 below))

module _ (st : List Numbered) where
  abbrev c : Circuit
  c = described st

  abbrev names : List (List ℕ)
  names = names_by_line st

  -- the names of the lines
  pub described_names : line_names c ≡ names
  described_names = ap (λ l. source_names st ++ l) (map-map (λ g. g.name) (gate_on names) (gates st))

  -- as many lines as names
  pub described_lines : line_count c ≡ length names
  described_lines = sym (line_names-length c) ∙ ap length described_names

  pub defined_lines : line_count c ≡ length (definitions st)
  defined_lines =
      described_lines ∙ as_many_lines st ∙ ap length (sym (names_of_definitions st))
      ∙ length-map (definitions st) (λ mention. mention.name)

  -- as many pins as are stated
  pub described_pins : pin_total c ≡ stated_pins st
  described_pins =
      sum_mapped (λ (g : GateOf). length g.pins) (λ (g : NamedGate). length g.arguments) (gate_on names)
      (λ g. length-map g.arguments (line_named names)) (gates st)
      ∙ sum_flat (λ (g : NamedGate). length g.arguments) (λ (s : Numbered). gate_in s.statement) st

  -- and as are named by the arguments of the gates
  pub argument_lines_counted : (all : List (List ℕ))
      → sum_by length (map (λ (g : NamedGate). map (line_named all) g.arguments) (gates st)) ≡ stated_pins st
  argument_lines_counted all =
      sum_mapped length (λ (g : NamedGate). length g.arguments) (λ (g : NamedGate). map (line_named all) g.arguments)
      (λ g. length-map g.arguments (line_named all)) (gates st)
      ∙ sum_flat (λ (g : NamedGate). length g.arguments) (λ (s : Numbered). gate_in s.statement) st

  module _ (named : AreNamed st) where
    -- the line of a defined name is one of the circuit
    has_line : (name : List ℕ) → Contains (defined_names st) name → (line_named names name).0 < line_count c
    has_line name has = omega (arith, place_within names name (is_line st name has), described_lines)

    have_lines : (some : List (List ℕ)) → All (Contains (defined_names st)) some → HasLines c (map (line_named names) some)
    have_lines some all =
        All-map (λ (line : LineId). line.0 < line_count c) (line_named names) some
        (All-weaker (Contains (defined_names st)) (λ name. (line_named names name).0 < line_count c) has_line some all)

    -- each statement uses such names
    each_use : All (λ s. All (Contains (defined_names st)) (used_by s.statement)) st
    each_use = all_pieces (Contains (defined_names st)) (λ (s : Numbered). used_by s.statement) st named.defined

    -- the pins of each gate read lines of the circuit
    pub pins_have_lines : All (λ gate. HasLines c gate.pins) c.gates
    pins_have_lines =
        let Has = Contains (defined_names st) in
        let AllHave = λ (g : NamedGate). All Has g.arguments in
        All-map (λ (g : GateOf). HasLines c g.pins) (gate_on names) (gates st)
        (All-weaker AllHave (λ g. HasLines c (map (line_named names) g.arguments)) (λ g all. have_lines g.arguments all) (gates st)
        (all_flat AllHave (λ (s : Numbered). gate_in s.statement) st
        (All-weaker (λ (s : Numbered). All Has (used_by s.statement)) (λ s. All AllHave (gate_in s.statement))
        (λ s all. gate_uses Has s.statement all) st each_use)))

    -- so do the flip-flops' data lines
    pub data_have_lines : HasLines c (data_lines c)
    data_have_lines =
        let Has = Contains (defined_names st) in
        let HasData = λ (f : NamedFlop). Has f.data_name in
        All-map (λ (line : LineId). line.0 < line_count c) (λ (flop : LineId × LineId). flop.1) c.flops
        (All-map (λ (flop : LineId × LineId). flop.1.0 < line_count c) (flop_on names) (flops st)
        (All-weaker HasData (λ f. (line_named names f.data_name).0 < line_count c) (λ f has. has_line f.data_name has) (flops st)
        (all_flat HasData (λ (s : Numbered). flop_in s.statement) st
        (All-weaker (λ (s : Numbered). All Has (used_by s.statement)) (λ s. All HasData (flop_in s.statement))
        (λ s all. flop_uses Has s.statement all) st each_use))))

    -- and the outputs
    pub outputs_have_lines : HasLines c (map (line_named names) (outputs st))
    outputs_have_lines =
        let Has = Contains (defined_names st) in
        have_lines (outputs st)
        (all_flat Has (λ (s : Numbered). output_in s.statement) st
        (All-weaker (λ (s : Numbered). All Has (used_by s.statement)) (λ s. All Has (output_in s.statement))
        (λ s all. output_uses Has s.statement all) st each_use))

    -- the flip-flops are the last sources
    pub flops_run_on : map (λ flop. flop.0.0) c.flops ≡ range_with_len (source_count c - length c.flops) (length c.flops)
    flops_run_on =
        let own = map (λ (f : NamedFlop). f.name) (flops st) in
        let last = map (λ (g : NamedGate). g.name) (gates st) in
        let number = λ (name : List ℕ). position_or_len (bytes_eq name) names in
        let all = length-append (inputs st) own in
        let named_once = length-map (flops st) (λ (f : NamedFlop). f.name) in
        let counted = length-map (flops st) (flop_on names) in
        let first : length (inputs st) ≡ source_count c - length c.flops = omega arith in
        let many : length own ≡ length c.flops = omega arith in
        map-map (λ (flop : LineId × LineId). flop.0.0) (flop_on names) (flops st)
        ∙ sym (map-map number (λ (f : NamedFlop). f.name) (flops st))
        ∙ numbers_run_on (inputs st) own last (lines_differ st named.distinct)
        ∙ (λ i. range_with_len (first i) (many i))

    pub flops_fit : length c.flops ≤ source_count c
    flops_fit =
        let own = map (λ (f : NamedFlop). f.name) (flops st) in
        omega (arith, length-append (inputs st) own, length-map (flops st) (λ (f : NamedFlop). f.name), length-map (flops st) (flop_on names))

    module _ (lawful : All (λ s. IsStatement s.statement) st) where
      -- the names of the lines are names
      pub names_are : All IsName names
      names_are =
          All-permutation IsName (defined_names st) names (reordered st)
          (all_flat IsName (λ (s : Numbered). defined_by s.statement) st
          (All-weaker (λ (s : Numbered). IsStatement s.statement) (λ s. All IsName (defined_by s.statement))
          (λ s is. defined_lawful s.statement is) st lawful))

      -- each gate has as many pins as its kind may
      gates_fan_in : All (λ gate. IsFanIn gate.kind (length gate.pins)) c.gates
      gates_fan_in =
          All-map (λ (g : GateOf). IsFanIn g.kind (length g.pins)) (gate_on names) (gates st)
          (All-weaker HasFanIn (λ g. IsFanIn g.kind (length (map (line_named names) g.arguments)))
          (λ g has. subst (IsFanIn g.kind) (sym (length-map g.arguments (line_named names))) has) (gates st)
          (all_flat HasFanIn (λ (s : Numbered). gate_in s.statement) st
          (All-weaker (λ (s : Numbered). IsStatement s.statement) (λ s. All HasFanIn (gate_in s.statement))
          (λ s is. gate_lawful s.statement is) st lawful)))

      -- so it is a circuit
      pub described_IsCircuit : IsLoopFree c → greatest_level c ≤ MOST_LEVELS → IsCircuit c
      described_IsCircuit loop_free few_levels = record {
        names = subst (All IsName) (sym described_names) names_are;
        names_differ = subst Differ (sym described_names) (lines_differ st named.distinct);
        fan_in = λ gate within. gates_fan_in gate no_gate within;
        reads_lines = λ gate within. pins_have_lines gate no_gate within;
        loop_free = loop_free;
        outputs = each_distinct (λ line. line.0 < line_count c) (map (line_named names) (outputs st)) outputs_have_lines;
        outputs_once = distinct_lines-once (map (line_named names) (outputs st));
        flops = flops_run_on;
        flops_fit = flops_fit;
        data_lines = data_have_lines;
        few_lines = omega (arith, defined_lines, named.limits.few_lines);
        few_pins = omega (arith, described_pins, named.limits.few_pins);
        few_levels = few_levels;
      }
