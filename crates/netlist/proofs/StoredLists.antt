-- What a netlist's fields store of its circuit, and what is read out of the lists that it stores by line number.
use Rattle.std.proofs.Common.{◌≡◌, ℕ, ◌+◌, ◌<◌, List, [], ◌∷◌, length, get_or, map, take, sum_by, refl, sym, ap, subst, ◌∙◌, arith}
use Rattle.std.proofs.lemmas.List.{length-map, get_or-map, take-map}
use Rattle.std.proofs.lemmas.List.Sums.{sum_by-cons}
use Rattle.std.proofs.lemmas.List.FromFn.{length-map-range_with_len, get_or-map-range_with_len}
use Rattle.std.specs.List.{range_with_len}
use Rattle.netlist.specs.declared.netlist.Layout.{Layout}
use Rattle.pd_base.specs.declared.ids.LineId.{LineId}
use Rattle.netlist.specs.Circuit.{Circuit, Gate, gate_count, no_gate, pins_at}
use Rattle.netlist.specs.Pins.{pins_before, pin_total}
use Rattle.netlist.specs.Stored.{IsStored, circuit_of}

-- the fields of a netlist store the circuit that they stand for
pub stored_of : {c : Circuit} {n : Layout} → IsStored (circuit_of n) n → circuit_of n ≡ c → IsStored c n
stored_of {c} {n} stored view = subst (λ v. IsStored v n) view stored

module _ {X : Type 0} (f : ℕ → X) (n : ℕ) (xs : List X) (same : xs ≡ map f (range_with_len 0 n)) where
  -- a list with an item for each line has as many items as there are lines
  pub by_line-length : length xs ≡ n
  by_line-length = ap length same ∙ length-map-range_with_len f 0 n

  -- and has at a line's number that line's item
  pub by_line-at : (line : ℕ) (d : X) → line < n → get_or xs line d ≡ f line
  by_line-at line d within =
      ap (λ l. get_or l line d) same ∙ get_or-map-range_with_len f 0 n line line d within (omega arith)

-- the pins of some gates are those of each
pins_sum : (gates : List Gate) → sum_by length (map (λ g. g.pins) gates) ≡ sum_by (λ g. length g.pins) gates
pins_sum [] = refl
pins_sum (g ∷ gates) =
    sum_by-cons length g.pins (map (λ (h : Gate). h.pins) gates) ∙ ap (λ n. length g.pins + n) (pins_sum gates)
    ∙ sym (sum_by-cons (λ (h : Gate). length h.pins) g gates)

module _ (c : Circuit) (pins : List (List LineId)) (same : pins ≡ map (λ gate. gate.pins) c.gates) where
  -- there is a list of pins for each gate
  pub pins-length : length pins ≡ gate_count c
  pins-length = ap length same ∙ length-map c.gates (λ gate. gate.pins)

  -- what stands at a gate's number is the list of the gate's pins
  pub pins-at : (gate : ℕ) → gate < gate_count c → get_or pins gate [] ≡ pins_at c gate
  pins-at gate within =
      ap (λ l. get_or l gate []) same ∙ get_or-map (λ gate. gate.pins) c.gates gate no_gate [] within

  -- so many pins stand before those of a gate
  pub pins-before : (gate : ℕ) → sum_by length (take gate pins) ≡ pins_before c gate
  pins-before gate =
      ap (λ l. sum_by length (take gate l)) same
      ∙ ap (sum_by length) (take-map (λ (g : Gate). g.pins) gate c.gates)
      ∙ pins_sum (take gate c.gates)

  -- and so many in all
  pub pins-total : sum_by length pins ≡ pin_total c
  pins-total = ap (sum_by length) same ∙ pins_sum c.gates
