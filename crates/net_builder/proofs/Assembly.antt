-- The lists of a circuit make its netlist, and what its wires are.
use Rattle.std.proofs.Common.{◌≡◌, ℕ, ◌+◌, ◌<◌, List, [], ◌∷◌, length, map, take, drop, refl, sym, ap, subst, ◌∙◌, arith}
use Rattle.std.specs.List.{All, sum_by}
use Rattle.std.proofs.lemmas.List.{drop_at, length-map, take_at}
use Rattle.std.proofs.lemmas.List.Elements.{All-map}
use Rattle.std.proofs.lemmas.List.Sums.{sum_by-cons}
use Rattle.std.proofs.lemmas.Simd.{map-map}
use Rattle.pd_base.specs.declared.ids.LineId.{LineId}
use Rattle.net_builder.specs.Wiring.{FitsLines, IsWired}
use Rattle.netlist.specs.declared.netlist.Layout.{Layout}
use Rattle.netlist.specs.Circuit.{Circuit, Gate, HasLines, gate_count, line_count, source_count}
use Rattle.netlist.specs.Description.{AreNamed, NamedGate, described, gate_on, gates, line_named, names_by_line}
use Rattle.netlist.specs.Statements.{Numbered}
use Rattle.netlist.specs.Stored.{IsStored, circuit_of, gates_of}
use Rattle.net_builder.proofs.Circuits.{defined_lines, described_lines, described_pins, pins_have_lines}

-- gates out of their names, kinds and pins
gates_again : (some : List Gate) → gates_of (map (λ g. g.name) some) (map (λ g. g.kind) some) (map (λ g. g.pins) some) ≡ some
gates_again [] = refl
gates_again (gate ∷ some) = ap (λ rest. gate ∷ rest) (gates_again some)

-- a layout that stores a circuit stands for it
pub stored_view : (c : Circuit) (n : Layout) → IsStored c n → circuit_of n ≡ c
stored_view c n stored = (λ i.
    record { sources = sources_are i; gates = gates_are i; outputs = stored.outputs i; flops = stored.flops i })
  where
    gate_names : List (List ℕ)
    gate_names = map (λ g. g.name) c.gates

    sources_are : take n.sources n.names ≡ c.sources
    sources_are = (λ i. take (stored.sources i) (stored.names i)) ∙ take_at c.sources gate_names (length c.sources) refl

    gates_are : gates_of (drop n.sources n.names) n.kinds.items n.pins ≡ c.gates
    gates_are =
        (λ i. gates_of (drop (stored.sources i) (stored.names i)) (stored.kinds i) (stored.pins i))
        ∙ ap (λ names. gates_of names (map (λ g. g.kind) c.gates) (map (λ g. g.pins) c.gates))
        (drop_at c.sources gate_names (length c.sources) refl)
        ∙ gates_again c.gates

-- so the layout stores what it stands for
pub stored_itself : (c : Circuit) (n : Layout) → IsStored c n → IsStored (circuit_of n) n
stored_itself c n stored = subst (λ d. IsStored d n) (sym (stored_view c n stored)) stored

-- there are as many names as lines
pub names_counted : (st : List Numbered) (names : List (List ℕ)) → names ≡ names_by_line st → length names ≡ line_count (described st)
names_counted st names are = ap length are ∙ sym (described_lines st)

-- the sum of the lengths of images
sum_of_lists : {X A : Type 0} (f : X → List A) (xs : List X) → sum_by length (map f xs) ≡ sum_by (λ x. length (f x)) xs
sum_of_lists f [] = refl
sum_of_lists f (x ∷ xs) =
    sum_by-cons length (f x) (map f xs) ∙ ap (λ n. length (f x) + n) (sum_of_lists f xs)
    ∙ sym (sum_by-cons (λ y. length (f y)) x xs)

module _ (st : List Numbered) where
  -- the lines that the arguments of a gate name
  abbrev pub argument_lines : NamedGate → List LineId
  argument_lines gate = map (line_named (names_by_line st)) gate.arguments

  -- are the lines of its pins
  pub described_gate_pins : map (λ g. g.pins) (described st).gates ≡ map argument_lines (gates st)
  described_gate_pins = map-map (λ (g : Gate). g.pins) (gate_on (names_by_line st)) (gates st)

  module _ (pins : List (List LineId)) (is : pins ≡ map argument_lines (gates st)) where
    -- so many gates
    pub gates_counted : length pins ≡ gate_count (described st)
    gates_counted =
        ap length is ∙ length-map (gates st) argument_lines
        ∙ sym (length-map (gates st) (gate_on (names_by_line st)))

    -- the circuit has so many lines
    pub wire_lines : (sources : ℕ) → sources ≡ source_count (described st) → sources + length pins ≡ line_count (described st)
    wire_lines sources are = omega (arith, are, gates_counted)

    pub own_pins : map (λ g. g.pins) (described st).gates ≡ pins
    own_pins = described_gate_pins ∙ sym is

    module _ (lines : ℕ) (many : lines ≡ line_count (described st)) where
      pub described_wired : IsWired (described st) lines pins
      described_wired = record { line_total = sym many; gate_pins = own_pins }

      pub described_fits : AreNamed st → FitsLines lines pins
      described_fits named =
          let InLines = λ (some : List LineId). All (λ line. line.0 < lines) some in
          let c = described st in
          let read : All InLines (map (λ g. g.pins) c.gates) =
          subst (λ n. All (λ (some : List LineId). All (λ line. line.0 < n) some) (map (λ g. g.pins) c.gates)) (sym many)
          (All-map (HasLines c) (λ (g : Gate). g.pins) c.gates (pins_have_lines st named)) in
          record {
            reads = subst (All InLines) own_pins read;
            few_gates = omega (arith, gates_counted, many);
            few_lines = omega (arith, many, defined_lines st, named.limits.few_lines);
            few_pins = omega (
              arith,
              ap (sum_by length) (sym own_pins),
              sum_of_lists (λ (g : Gate). g.pins) c.gates,
              described_pins st,
              named.limits.few_pins,
            );
          }
