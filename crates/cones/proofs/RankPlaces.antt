-- The places of the gates of a circuit in rank order.
use Rattle.std.proofs.Common.{◌≡◌, ◌≢◌, ⊎_elim, ℕ, ◌+◌, ◌<◌, ◌≤◌, List, length, get_or, set, get_or-set_same, get_or-set_other, sym, ap, ◌∙◌, arith}
use Rattle.std.specs.List.{AllPairs}
use Rattle.std.proofs.lemmas.Bool.{cases_lt}
use Rattle.std.proofs.lemmas.List.{get_or_default}
use Rattle.pd_base.specs.declared.ids.GateId.{GateId}
use Rattle.netlist.specs.Circuit.{Circuit, gate_count, gate_line}
use Rattle.netlist.specs.Levels.{level, IsRankedBefore, IsRankOrder}
use Rattle.netlist.specs.Levels.IsRankedBefore.{lower_level, lesser_number}
use Rattle.cones.specs.Ranks.{ranked_gate, AreRanks}

-- no gate stands twice in rank order
pub ranked_apart : (c : Circuit) (order : List GateId) → IsRankOrder c order → AllPairs (λ a b. a.0 ≢ b.0) order
ranked_apart c order ranked i j d less inside same = apart (get_or order i d) (get_or order j d) same (ranked.rising i j d less inside)
  where
    apart : (a b : GateId) → a.0 ≡ b.0 → IsRankedBefore c a b → ⊥
    apart a b same (lower_level below) = omega (arith, ap (λ n. level c (gate_line c n)) same)
    apart a b same (lesser_number even less) = omega arith

-- the place of a gate in rank order is the number that it has
pub place_in_order : (c : Circuit) (order : List GateId) → IsRankOrder c order → (ranks : List ℕ) → AreRanks order ranks → (gate : ℕ)
    → gate < gate_count c
    → (place : ℕ) × (place < length order) × (ranked_gate order place ≡ record { 0 = gate }) × (get_or ranks gate 0 ≡ place)
place_in_order c order ranked ranks places gate within =
    let at = ranked.whole gate within in
    let is : ranked_gate order at.0 ≡ record { 0 = gate } =
    get_or_default order at.0 (record { 0 = 0 }) (record { 0 = gate }) at.1 ∙ at.2 in
    (at.0, at.1, is, ap (λ (g : GateId). get_or ranks g.0 0) (sym is) ∙ places.each at.0 at.1)

-- one gate more has its place
pub ranks_more : (order : List GateId) (ranks : List ℕ) (place : ℕ) → place < length order → (ranked_gate order place).0 < length ranks
    → AllPairs (λ a b. a.0 ≢ b.0) order → ((k : ℕ) → k < place → get_or ranks (ranked_gate order k).0 0 ≡ k)
    → (k : ℕ) → k < place + 1 → get_or (set ranks (ranked_gate order place).0 place) (ranked_gate order k).0 0 ≡ k
ranks_more order ranks place inside within apart before k below = ⊎_elim
    (λ (less : k < place).
    get_or-set_other ranks (ranked_gate order place).0 (ranked_gate order k).0 place 0 (apart k place (record { 0 = 0 }) less inside)
    ∙ before k less)
    (λ (from : place ≤ k).
    let here : k ≡ place = omega arith in
    ap (λ j. get_or (set ranks (ranked_gate order place).0 place) (ranked_gate order j).0 0) here
    ∙ get_or-set_same ranks (ranked_gate order place).0 place 0 within ∙ sym here)
    (cases_lt k place)
