-- Two evaluations of a circuit whose values stand in a relation at the sources, and keep it at each gate, do so at every
-- line.
use Rattle.std.proofs.Common.{ℕ, zero, suc, ◌-◌, ◌<◌, Bool, true, false, List, [], ◌∷◌, map, nat_lt, if◌then◌else◌, sym, subst₂}
use Rattle.std.specs.List.{All, AllZip}
use Rattle.std.proofs.lemmas.List.Elements.{All-head, All-tail}
use Rattle.pd_base.specs.declared.ids.LineId.{LineId}
use Rattle.netlist.specs.Circuit.{Circuit, source_count, gate_count, line_count, gate_line, pins_at}
use Rattle.netlist.specs.Lawful.{IsLoopFree, ReadsLines}
use Rattle.netlist.specs.Evaluation.{value_within, value_of}
use Rattle.netlist.proofs.Evaluation.{all_from_places, line_induction, value_at_source, value_at_gate}

-- two functions whose values stand in a relation at each element map the list to lists that do, place by place
pub all_zip-map : {X Y Z : Type 0} (R : Y → Z → Type 0) (f : X → Y) (g : X → Z) (xs : List X)
    → All (λ x. R (f x) (g x)) xs → AllZip R (map f xs) (map g xs)
all_zip-map R f g [] all = tt
all_zip-map R f g (x ∷ xs) all =
    (All-head (λ x. R (f x) (g x)) x xs all, all_zip-map R f g xs (All-tail (λ x. R (f x) (g x)) x xs all))

module _ {V W : Type 0} (c : Circuit)
    (base : ℕ → V) (step : ℕ → List V → V) (other_base : ℕ → W) (other_step : ℕ → List W → W) where
  -- values that stand in a relation at the sources, and at each gate where they do at its pins, do at every line
  pub values_related : ReadsLines c → IsLoopFree c → (R : ℕ → V → W → Type 0)
      → ((line : ℕ) → line < source_count c → R line (base line) (other_base line))
      → ((gate : ℕ) (value : ℕ → V) (other : ℕ → W) → gate < gate_count c
      → All (λ pin. R pin.0 (value pin.0) (other pin.0)) (pins_at c gate)
      → R (gate_line c gate) (step gate (map (λ pin. value pin.0) (pins_at c gate)))
      (other_step gate (map (λ pin. other pin.0) (pins_at c gate))))
      → (line : ℕ) → line < line_count c → R line (value_of c base step line) (value_of c other_base other_step line)
  values_related reads loop_free R sources gates =
      let value = value_of c base step in
      let other = value_of c other_base other_step in
      line_induction c reads (λ line. R line (value line) (other line))
      (λ line source. subst₂ (R line) (sym (value_at_source c base step line source))
      (sym (value_at_source c other_base other_step line source)) (sources line source))
      (λ gate within pins. subst₂ (R (gate_line c gate)) (sym (value_at_gate c base step reads loop_free gate within))
      (sym (value_at_gate c other_base other_step reads loop_free gate within)) (gates gate value other within pins))
      loop_free

-- two choices by one test stand in a relation where both their sides do
either_way : {V W : Type 0} (R : V → W → Type 0) (test : Bool) (x x' : V) (y y' : W) → R x y → R x' y'
    → R (if test then x else x') (if test then y else y')
either_way R true x x' y y' first second = first
either_way R false x x' y y' first second = second

module _ {V W : Type 0} (c : Circuit) (R : V → W → Type 0)
    (base : ℕ → V) (step : ℕ → List V → V) (other_base : ℕ → W) (other_step : ℕ → List W → W)
    (bases : (line : ℕ) → R (base line) (other_base line))
    (steps : (gate : ℕ) (values : List V) (others : List W) → AllZip R values others
    → R (step gate values) (other_step gate others)) where
  -- the relation below, however far one looks back
  within_related : (gates line : ℕ)
      → R (value_within c base step gates line) (value_within c other_base other_step gates line)
  within_related zero line = bases line
  within_related (suc gates) line =
      let gate = line - source_count c in
      let value = λ (pin : LineId). value_within c base step gates pin.0 in
      let other = λ (pin : LineId). value_within c other_base other_step gates pin.0 in
      either_way R (nat_lt line (source_count c)) _ _ _ _ (bases line)
      (steps gate _ _ (all_zip-map R value other (pins_at c gate)
      (all_from_places (λ pin. R (value pin) (other pin)) (pins_at c gate) (λ i pin e. within_related gates pin.0))))

  -- values whose bases stand in a relation, and whose steps keep it, stand in it at every number, whatever the circuit is
  pub values_related_anywhere : (line : ℕ) → R (value_of c base step line) (value_of c other_base other_step line)
  values_related_anywhere line = within_related (gate_count c) line
