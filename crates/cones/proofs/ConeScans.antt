-- The sources and the gates of a cone, taken by the marks of its lines in one pass over all sources and one over the rank order.
use Rattle.std.proofs.Common.{◌≡◌, ◌≢◌, ⊎_elim, ℕ, zero, suc, ◌+◌, ◌<◌, ◌≤◌, ◌↔◌, Bool, true, false, cond, List, [], ◌∷◌, ◌++◌, length, map, filter, get_or, sym, ap, subst, ◌∙◌, arith}
use Rattle.std.specs.List.{AllPairs, Contains}
use Rattle.std.proofs.lemmas.Bool.{cases_lt}
use Rattle.std.proofs.lemmas.List.{length-map, length_push}
use Rattle.std.proofs.lemmas.List.Elements.{All-contains, All-contains_itself, All-filter, All-map, filter_passes, Contains-append_left, Contains-get_or, Contains-push, Contains-push_cases}
use Rattle.std.proofs.lemmas.List.Kept.{AllPairs-filter}
use Rattle.std.proofs.lemmas.List.Quantifiers.{all_pairs_push}
use Rattle.pd_base.specs.Links.{LinkList}
use Rattle.pd_base.specs.declared.ids.LineId.{LineId}
use Rattle.pd_base.specs.declared.ids.GateId.{GateId}
use Rattle.netlist.specs.Circuit.{Circuit, source_count, gate_count, gate_line}
use Rattle.netlist.specs.Lawful.{IsCircuit}
use Rattle.netlist.specs.Levels.{IsRankedBefore, IsRankOrder}
use Rattle.netlist.specs.LinkedPairs.{IsSupported}
use Rattle.cones.specs.FoundLines.{HasMark}
use Rattle.cones.specs.KeptCones.{AreConeSources, AreConeGates}
use Rattle.cones.proofs.RankPlaces.{ranked_apart}
use Rattle.cones.proofs.Images.{few_numbers, image_pairs}
use Rattle.cones.proofs.RankedCones.{cone_gates}

-- no more gates stand in rank order than there are
pub few_ranked : (c : Circuit) (order : List GateId) → IsRankOrder c order → length order ≤ gate_count c
few_ranked c order ranked =
    let number : GateId → ℕ = λ gate. gate.0 in
    let few = few_numbers (map number order) (gate_count c)
    (image_pairs (λ a b. a.0 ≢ b.0) (λ a b. a ≢ b) number order (record { 0 = 0 }) (λ i j less inside apart. apart) (ranked_apart c order ranked))
    (All-map (λ n. n < gate_count c) number order ranked.in_circuit) in
    omega (arith, few, length-map order number)

-- what a list keeps is kept by a longer one
kept_behind : {X : Type 0} (y : X) (kept : List X) (x : X) (b : Bool) → Contains kept x → Contains (cond b (y ∷ kept) kept) x
kept_behind y kept x true later = (suc later.0, (let l = later.1 in omega arith), later.2)
kept_behind y kept x false later = later

-- what passes a test is kept
kept_at : {X : Type 0} (p : X → Bool) (xs : List X) (x : X) (k : ℕ) → k < length xs → get_or xs k x ≡ x → p x ≡ true → Contains (filter p xs) x
kept_at p [] x k inside is passes = absurd (omega arith)
kept_at p (y ∷ ys) x zero inside is passes =
    subst (λ b. Contains (cond b (y ∷ filter p ys) (filter p ys)) x) (sym (ap p is ∙ passes)) (0, omega arith, is)
kept_at p (y ∷ ys) x (suc k) inside is passes = kept_behind y (filter p ys) x (p y) (kept_at p ys x k (omega arith) is passes)

-- and what is kept is in the list, and passes
from_kept : {X : Type 0} (p : X → Bool) (xs : List X) (x : X) → Contains (filter p xs) x → Contains xs x × (p x ≡ true)
from_kept p xs x has = (
  All-contains (Contains xs) (filter p xs) x (All-filter p (Contains xs) xs (All-contains_itself xs)) has,
  All-contains (λ y. p y ≡ true) (filter p xs) x (filter_passes p xs) has,
)

-- a source by its number
abbrev source_of : ℕ → LineId
source_of number = record { 0 = number }

module _ (marks : List Bool) where
  -- the sources below a number that have marks
  pub record AreScanned (count : ℕ) (list : List LineId) : Type 0 where
    pub few : length list ≤ count
    pub rising : AllPairs (λ a b. a.0 < b.0) list
    pub exactly : (source : ℕ) → Contains list (record { 0 = source }) ↔ ((source < count) × HasMark marks source)

  -- none at first
  pub scanned_none : AreScanned 0 []
  scanned_none = record {
    few = omega arith;
    rising = λ i j d less inside. absurd (omega arith);
    exactly = λ source. (λ has. absurd (omega (arith, has.1)), λ both. absurd (omega (arith, both.0)));
  }

  module _ (count : ℕ) (list : List LineId) (are : AreScanned count list) where
    -- the next one, if it has a mark
    pub scanned_more : HasMark marks count → AreScanned (count + 1) (list ++ source_of count ∷ [])
    scanned_more marked = record {
      few = let e = length_push list (source_of count) in let f = are.few in omega arith;
      rising = all_pairs_push (λ (a b : LineId). a.0 < b.0) list (source_of count) are.rising
          (λ k d inside. ((are.exactly (get_or list k d).0).0 (Contains-get_or list k d inside)).0);
      exactly = λ source. (
        λ has. ⊎_elim
            (λ (was : Contains list (source_of source)). let own = (are.exactly source).0 was in (omega (arith, own.0), own.1))
            (λ (this : source_of count ≡ source_of source).
            let same : count ≡ source = ap (λ (l : LineId). l.0) this in (omega arith, subst (HasMark marks) same marked))
            (Contains-push_cases list (source_of count) (source_of source) has),
        λ both. ⊎_elim
            (λ (less : source < count).
            Contains-append_left list (source_of count ∷ []) (source_of source) ((are.exactly source).1 (less, both.1)))
            (λ (from : count ≤ source).
            let here : count ≡ source = omega (arith, both.0) in
            subst (λ n. Contains (list ++ source_of count ∷ []) (source_of n)) here (Contains-push list (source_of count)))
            (cases_lt source count),
      );
    }

    -- or not
    pub scanned_same : (HasMark marks count → ⊥) → AreScanned (count + 1) list
    scanned_same unmarked = record {
      few = let f = are.few in omega arith;
      rising = are.rising;
      exactly = λ source. (
        λ has. let own = (are.exactly source).0 has in (omega (arith, own.0), own.1),
        λ both. ⊎_elim
            (λ (less : source < count). (are.exactly source).1 (less, both.1))
            (λ (from : count ≤ source).
            let here : source ≡ count = omega (arith, both.0) in absurd (unmarked (subst (HasMark marks) here both.1)))
            (cases_lt source count),
      );
    }

module _ (c : Circuit) (links : LinkList) (end : ℕ) (lines : List LineId) (are : (line : ℕ) → Contains lines (record { 0 = line }) ↔ IsSupported c links end line)
    (marks : List Bool) (marked : (line : ℕ) → HasMark marks line ↔ Contains lines (record { 0 = line })) where
  -- the sources with marks
  pub scanned_sources : (list : List LineId) → AllPairs (λ a b. a.0 < b.0) list
      → ((source : ℕ) → Contains list (record { 0 = source }) ↔ ((source < source_count c) × HasMark marks source)) → AreConeSources c links end list
  scanned_sources list rising exactly = record {
    rising = rising;
    exactly = λ source. (
      λ has. let own = (exactly source).0 has in (own.0, (are source).0 ((marked source).0 own.1)),
      λ both. (exactly source).1 (both.0, (marked source).1 ((are source).1 both.1)),
    );
  }

  -- the gates whose lines have marks
  module _ (order : List GateId) (ranked : IsRankOrder c order) where
    abbrev is_marked : GateId → Bool
    is_marked gate = get_or marks (source_count c + gate.0) false

    gates_exactly : (gate : ℕ) → Contains (filter is_marked order) (record { 0 = gate })
        ↔ ((gate < gate_count c) × IsSupported c links end (gate_line c gate))
    gates_exactly gate = (
      λ has.
          let own = from_kept is_marked order (record { 0 = gate }) has in (
            All-contains (λ g. g.0 < gate_count c) order (record { 0 = gate }) ranked.in_circuit own.0,
            (are (gate_line c gate)).0 ((marked (gate_line c gate)).0 own.1),
          ),
      λ both.
          let at = ranked.whole gate both.0 in
          kept_at is_marked order (record { 0 = gate }) at.0 at.1 at.2
          ((marked (gate_line c gate)).1 ((are (gate_line c gate)).1 both.1)),
    )

    pub scanned_gates : IsCircuit c → AreConeGates c links end (filter is_marked order)
    scanned_gates circuit =
        cone_gates c links end (filter is_marked order) (AllPairs-filter (IsRankedBefore c) is_marked order ranked.rising) gates_exactly circuit
