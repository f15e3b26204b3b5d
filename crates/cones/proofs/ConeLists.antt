-- The sources and the gates of a cone, made of their numbers and of their places in rank order.
use Rattle.std.proofs.Common.{◌≡◌, ℕ, ◌<◌, ◌↔◌, List, length, map, get_or, sym, ap, subst, ◌∙◌}
use Rattle.std.specs.List.{All, AllPairs, Contains}
use Rattle.std.proofs.lemmas.List.Elements.{Contains-get_or}
use Rattle.pd_base.specs.Links.{LinkList}
use Rattle.pd_base.specs.declared.ids.LineId.{LineId}
use Rattle.pd_base.specs.declared.ids.GateId.{GateId}
use Rattle.netlist.specs.Circuit.{Circuit, source_count, gate_count, gate_line}
use Rattle.netlist.specs.Lawful.{IsCircuit}
use Rattle.netlist.specs.Levels.{IsRankedBefore, IsRankOrder}
use Rattle.netlist.specs.LinkedPairs.{IsSupported}
use Rattle.cones.specs.KeptCones.{IsRankAmong, AreConeSources, AreConeGates}
use Rattle.cones.specs.Ranks.{ranked_gate, AreRanks}
use Rattle.cones.proofs.Images.{image_has, image_only, image_pairs}
use Rattle.cones.proofs.RankPlaces.{place_in_order}
use Rattle.cones.proofs.RankedCones.{cone_gates}

-- a source by its number
abbrev pub source_of : ℕ → LineId
source_of number = record { 0 = number }

module _ (c : Circuit) (links : LinkList) (end : ℕ) (lines : List LineId)
    (are : (line : ℕ) → Contains lines (record { 0 = line }) ↔ IsSupported c links end line) (numbers : List ℕ)
    (rising : AllPairs (λ a b. a < b) numbers) where
  -- the sources with these numbers
  pub cone_sources : ((n : ℕ) → Contains numbers n ↔ ((n < source_count c) × Contains lines (record { 0 = n }))) → AreConeSources c links end (map source_of numbers)
  cone_sources exactly = record {
    rising = image_pairs (λ a b. a < b) (λ a b. a.0 < b.0) source_of numbers 0 (λ i j less inside below. below) rising;
    exactly = λ source. (
      λ has.
          let some = image_only source_of numbers (record { 0 = source }) 0 has in
          let same : some.0 ≡ source = ap (λ (l : LineId). l.0) some.2 in
          let own = (exactly source).0 (subst (Contains numbers) same some.1) in
          (own.0, (are source).0 own.1),
      λ both. image_has source_of numbers source ((exactly source).1 (both.0, (are source).1 both.1)),
    );
  }

  module _ (order : List GateId) (ranked : IsRankOrder c order) (ranks : List ℕ) (places : AreRanks order ranks)
      (exactly : (n : ℕ) → Contains numbers n ↔ IsRankAmong c lines ranks n) where
    -- each of the numbers is the place of its gate
    own_place : (n : ℕ) → (among : IsRankAmong c lines ranks n) → (n < length order) × (ranked_gate order n ≡ record { 0 = among.gate })
    own_place n among =
        let at = place_in_order c order ranked ranks places among.gate among.in_circuit in
        let same : at.0 ≡ n = sym at.3 ∙ among.ranked in
        (subst (λ k. k < length order) same at.1, subst (λ k. ranked_gate order k ≡ record { 0 = among.gate }) same at.2)

    pub places_inside : All (λ n. n < length order) numbers
    places_inside k d inside = (own_place (get_or numbers k d) ((exactly (get_or numbers k d)).0 (Contains-get_or numbers k d inside))).0

    -- the gates at these places
    abbrev gates : List GateId
    gates = map (ranked_gate order) numbers

    gates_rising : AllPairs (IsRankedBefore c) gates
    gates_rising =
        image_pairs (λ a b. a < b) (IsRankedBefore c) (ranked_gate order) numbers 0
        (λ i j less inside below. ranked.rising (get_or numbers i 0) (get_or numbers j 0) (record { 0 = 0 }) below
        (places_inside j 0 inside)) rising

    gates_exactly : (gate : ℕ) → Contains gates (record { 0 = gate }) ↔ ((gate < gate_count c) × IsSupported c links end (gate_line c gate))
    gates_exactly gate = (
      λ has.
          let some = image_only (ranked_gate order) numbers (record { 0 = gate }) 0 has in
          let among = (exactly some.0).0 some.1 in
          let own = own_place some.0 among in
          let same : among.gate ≡ gate = ap (λ (g : GateId). g.0) (sym own.1 ∙ some.2) in (
            subst (λ g. g < gate_count c) same among.in_circuit,
            subst (λ g. IsSupported c links end (gate_line c g)) same ((are (gate_line c among.gate)).0 among.among),
          ),
      λ both.
          let at = place_in_order c order ranked ranks places gate both.0 in
          let among : IsRankAmong c lines ranks at.0 =
          record { gate = gate; in_circuit = both.0; among = (are (gate_line c gate)).1 both.1; ranked = at.3 } in
          subst (Contains gates) at.2 (image_has (ranked_gate order) numbers at.0 ((exactly at.0).1 among)),
    )

    pub listed_gates : IsCircuit c → AreConeGates c links end gates
    listed_gates circuit = cone_gates c links end gates gates_rising gates_exactly circuit
