-- The one evaluator computes: at a source the base, at a gate the step on the values of its pins' lines. With it the
-- induction over the lines of a circuit without loops. That relations between two evaluations go along lines too is shown
-- above, in path_laws.
use Rattle.std.proofs.Common.{◌≡◌, ⊎_elim, subst, ℕ, zero, suc, ◌-◌, ◌<◌, ◌≤◌, List, [], ◌∷◌, map, length, get_or, slice_get, Some, nat_lt, refl, sym, ap, ap₂, ◌∙◌, arith, lt-ltb, le-ltb}
use Rattle.std.specs.List.{All}
use Rattle.std.proofs.lemmas.List.Elements.{All-head, All-tail}
use Rattle.std.proofs.lemmas.Option.{slice_get-get_or, get_or_from_slice_get, slice_get_within}
use Rattle.std.proofs.lemmas.Bool.{cases_lt, cond-true, cond-false}
use Rattle.pd_base.specs.declared.ids.LineId.{LineId}
use Rattle.netlist.specs.Circuit.{Circuit, source_count, gate_count, line_count, gate_line, pins_at}
use Rattle.netlist.specs.Lawful.{ReadsGate, ReadsOn, IsLoopFree, ReadsLines}
use Rattle.netlist.specs.Evaluation.{value_within, value_of}

-- no chain of reads goes back from the gate through so many gates
abbrev pub IsShallow : Circuit → ℕ → ℕ → Type 0
IsShallow c gates gate = ¬ ((more : List ℕ) × (length more ≡ gates) × ReadsOn c (gate ∷ more))

module _ {X : Type 0} (P : X → Type 0) (xs : List X) where
  -- what holds at each place of a list holds of each element
  pub all_from_places : ((i : ℕ) (x : X) → slice_get xs i ≡ Some x → P x) → All P xs
  all_from_places at i d within = at i (get_or xs i d) (slice_get-get_or xs i d within)

  -- what holds of each element holds at each place
  pub all_at_place : (i : ℕ) (x : X) → All P xs → slice_get xs i ≡ Some x → P x
  all_at_place i x all e = subst P (get_or_from_slice_get xs i x x e) (all i x (slice_get_within xs i x e))

-- two functions that agree at each element map the list to the same list
pub map_agree : {X Y : Type 0} (f g : X → Y) (xs : List X) → All (λ x. f x ≡ g x) xs → map f xs ≡ map g xs
map_agree f g [] agree = refl
map_agree f g (x ∷ xs) agree =
    ap₂ (λ y ys. y ∷ ys) (All-head (λ x. f x ≡ g x) x xs agree) (map_agree f g xs (All-tail (λ x. f x ≡ g x) x xs agree))

module _ (c : Circuit) where
  -- what a gate reads is shallow by one gate less than the gate
  shallow_next : (gates gate next : ℕ) → IsShallow c (suc gates) gate → ReadsGate c gate next → IsShallow c gates next
  shallow_next gates gate next shallow reads = λ chain. shallow (next ∷ chain.0, ap suc chain.1, (reads, chain.2))

  -- a gate alone is a chain of reads, so that no gate is shallow by none
  never_shallow : (gate : ℕ) → IsShallow c zero gate → ⊥
  never_shallow gate shallow = shallow ([], refl, tt)

  -- the gate of a gate's line is that gate
  pub gate_line-sub : (gate : ℕ) → gate_line c gate - source_count c ≡ gate
  gate_line-sub gate = omega arith

  -- a line past the sources is the line of its gate
  pub gate_line_of : (line : ℕ) → source_count c ≤ line → gate_line c (line - source_count c) ≡ line
  gate_line_of line above = omega arith

  -- a pin's line past the sources is that of a gate that the pin's gate reads
  reads_from_place : (gate i : ℕ) (pin : LineId) → source_count c ≤ pin.0 → slice_get (pins_at c gate) i ≡ Some pin
      → ReadsGate c gate (pin.0 - source_count c)
  reads_from_place gate i pin above e =
      (i, e ∙ ap (λ (line : ℕ). Some (record { 0 = line })) (sym (gate_line_of pin.0 above)))

module _ (c : Circuit) (reads : ReadsLines c) (P : ℕ → Type 0)
    (sources : (line : ℕ) → line < source_count c → P line) where
  -- what holds of the sources and of gates shallow by one gate less holds of the lines of a shallow gate's pins
  holds_at_pins : (gates gate : ℕ) → ((next : ℕ) → next < gate_count c → IsShallow c gates next → P (gate_line c next))
      → gate < gate_count c → IsShallow c (suc gates) gate → All (λ pin. P pin.0) (pins_at c gate)
  holds_at_pins gates gate below within shallow = all_from_places (λ pin. P pin.0) (pins_at c gate) at_pin
    where
      at_gate : (i : ℕ) (pin : LineId) → slice_get (pins_at c gate) i ≡ Some pin → source_count c ≤ pin.0 → P pin.0
      at_gate i pin e above =
          let inside : pin.0 < line_count c =
          all_at_place (λ (read : LineId). read.0 < line_count c) (pins_at c gate) i pin (reads gate within) e in
          let near = shallow_next c gates gate (pin.0 - source_count c) shallow (reads_from_place c gate i pin above e) in
          subst P (gate_line_of c pin.0 above) (below (pin.0 - source_count c) (omega arith) near)

      at_pin : (i : ℕ) (pin : LineId) → slice_get (pins_at c gate) i ≡ Some pin → P pin.0
      at_pin i pin e = ⊎_elim (sources pin.0) (at_gate i pin e) (cases_lt pin.0 (source_count c))

  module _ (step : (gate : ℕ) → gate < gate_count c → All (λ pin. P pin.0) (pins_at c gate)
      → P (gate_line c gate)) where
    -- the induction below, over the number of gates by which a gate is shallow
    shallow_induction : (gates gate : ℕ) → gate < gate_count c → IsShallow c gates gate → P (gate_line c gate)
    shallow_induction zero gate within shallow = absurd (never_shallow c gate shallow)
    shallow_induction (suc gates) gate within shallow =
        step gate within (holds_at_pins gates gate (shallow_induction gates) within shallow)

    -- what holds of the sources, and of each gate where it holds of the lines of its pins, holds of every line
    pub line_induction : IsLoopFree c → (line : ℕ) → line < line_count c → P line
    line_induction loop_free line within = ⊎_elim (sources line) at_gate (cases_lt line (source_count c))
      where
        at_gate : source_count c ≤ line → P line
        at_gate above =
            let below : line - source_count c < gate_count c = omega arith in
            subst P (gate_line_of c line above)
            (shallow_induction (gate_count c) (line - source_count c) below (loop_free (line - source_count c) below))

module _ {V : Type 0} (c : Circuit) (base : ℕ → V) (step : ℕ → List V → V) where
  -- at a source the value is the base, however far one looks back
  within_source : (gates line : ℕ) → line < source_count c → value_within c base step gates line ≡ base line
  within_source zero line source = refl
  within_source (suc gates) line source = cond-true (nat_lt line (source_count c)) _ _ (lt-ltb line (source_count c) source)

  -- at a gate the value is the step's on the values that are found one gate less far back
  within_gate : (gates gate : ℕ) → value_within c base step (suc gates) (gate_line c gate)
      ≡ step gate (map (λ pin. value_within c base step gates pin.0) (pins_at c gate))
  within_gate gates gate =
      cond-false (nat_lt (gate_line c gate) (source_count c)) _ _ (le-ltb (gate_line c gate) (source_count c) (omega arith))
      ∙ ap (λ g. step g (map (λ pin. value_within c base step gates pin.0) (pins_at c g))) (gate_line-sub c gate)

  -- at a source the value is the base
  pub value_at_source : (line : ℕ) → line < source_count c → value_of c base step line ≡ base line
  value_at_source line source = within_source (gate_count c) line source

  -- nothing is gained at a line by looking back through one more gate
  abbrev IsFound : ℕ → ℕ → Type 0
  IsFound gates line = value_within c base step gates line ≡ value_within c base step (suc gates) line

  module _ (reads : ReadsLines c) where
    -- where nothing is gained at shallow gates, nothing is at the pins of a gate that is shallow by one gate more
    found_at_pins : (gates gate : ℕ)
        → ((next : ℕ) → next < gate_count c → IsShallow c gates next → IsFound gates (gate_line c next))
        → gate < gate_count c → IsShallow c (suc gates) gate
        → map (λ pin. value_within c base step gates pin.0) (pins_at c gate)
        ≡ map (λ pin. value_within c base step (suc gates) pin.0) (pins_at c gate)
    found_at_pins gates gate below within shallow =
        map_agree (λ pin. value_within c base step gates pin.0) (λ pin. value_within c base step (suc gates) pin.0)
        (pins_at c gate) (holds_at_pins c reads (IsFound gates) at_source gates gate below within shallow)
      where
        at_source : (line : ℕ) → line < source_count c → IsFound gates line
        at_source line source = within_source gates line source ∙ sym (within_source (suc gates) line source)

    -- at a shallow gate nothing is gained by looking back further
    found_at_gate : (gates gate : ℕ) → gate < gate_count c → IsShallow c gates gate → IsFound gates (gate_line c gate)
    found_at_gate zero gate within shallow = absurd (never_shallow c gate shallow)
    found_at_gate (suc gates) gate within shallow =
        within_gate gates gate
        ∙ ap (step gate) (found_at_pins gates gate (found_at_gate gates) within shallow)
        ∙ sym (within_gate (suc gates) gate)

    -- at a gate the value is that of the step on the values at the gate's pins
    pub value_at_gate : IsLoopFree c → (gate : ℕ) → gate < gate_count c
        → value_of c base step (gate_line c gate) ≡ step gate (map (λ pin. value_of c base step pin.0) (pins_at c gate))
    value_at_gate loop_free gate within = go (gate_count c) refl
      where
        go : (count : ℕ) → gate_count c ≡ count
            → value_within c base step count (gate_line c gate)
            ≡ step gate (map (λ pin. value_within c base step count pin.0) (pins_at c gate))
        go zero none = absurd (omega arith)
        go (suc gates) all =
            let shallow = subst (λ count. IsShallow c count gate) all (loop_free gate within) in
            within_gate gates gate
            ∙ ap (step gate) (found_at_pins gates gate (found_at_gate gates) within shallow)
