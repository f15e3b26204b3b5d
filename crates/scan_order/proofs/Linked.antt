-- The links of chains: one more of them, and that no flip-flop has two.
use Rattle.std.proofs.Common.{◌≡◌, ◌≢◌, ◌∙◌, ◌+◌, ◌-◌, ◌<◌, ◌≤◌, ℕ, zero, suc, List, [], ◌∷◌, ◌++◌, length, get_or, take, drop, map, flat_map, refl, sym, ap, subst, arith}
use Rattle.std.specs.List.{All, AllByRecursion, AllPairs}
use Rattle.std.proofs.lemmas.List.{map-append}
use Rattle.std.proofs.lemmas.List.Elements.{All-from_recursion, All-weaker, recursion_from_All}
use Rattle.std.proofs.lemmas.List.Kept.{AllPairs-cons}
use Rattle.pd_base.specs.declared.ids.LineId.{LineId}
use Rattle.pd_base.specs.Links.{LinkList}
use Rattle.netlist.specs.Circuit.{Circuit, line_count, source_count}
use Rattle.netlist.specs.Lawful.{IsCircuit}
use Rattle.netlist.specs.LinkedPairs.{AreLinksOf}
use Rattle.scan_order.specs.Chains.{AreChainsOf, IsFlop, in_chains}
use Rattle.scan_order.specs.SkewedLinks.{links_along, links_of_chains}
use Rattle.scan_order.proofs.ChainLines.{in_each}
use Rattle.scan_order.proofs.FlopNames.{flop_in_circuit, flop_is_late}

-- one flip-flop more along a chain
links_along-more : (at : ℕ) (chain : List LineId) (d : LineId) → suc at < length chain
    → links_along (take (suc (suc at)) chain) ≡ links_along (take (suc at) chain) ++ (get_or chain (suc at) d, get_or chain at d) ∷ []
links_along-more at [] d within = absurd (omega arith)
links_along-more at (flop ∷ []) d within = absurd (omega arith)
links_along-more zero (flop ∷ next ∷ chain) d within = refl
links_along-more (suc at) (flop ∷ next ∷ chain) d within =
    ap (λ (links : LinkList). (next, flop) ∷ links) (links_along-more at (next ∷ chain) d (omega arith))

pub links_along-next : (at : ℕ) (chain : List LineId) (d : LineId) → 1 ≤ at → at < length chain
    → links_along (take (at + 1) chain) ≡ links_along (take at chain) ++ (get_or chain at d, get_or chain (at - 1) d) ∷ []
links_along-next zero chain d some within = absurd (omega arith)
links_along-next (suc at) chain d some within =
    let next : suc at + 1 ≡ suc (suc at) = omega arith in
    let before : at ≡ suc at - 1 = omega arith in
    ap (λ (n : ℕ). links_along (take n chain)) next ∙ links_along-more at chain d within
    ∙ ap (λ (n : ℕ). links_along (take (suc at) chain) ++ (get_or chain (suc at) d, get_or chain n d) ∷ []) before

-- each link is of two flip-flops of the chain
linked_all : (P : LineId → Type 0) (chain : List LineId) → AllByRecursion P chain → AllByRecursion (λ link. P link.0 × P link.1) (links_along chain)
linked_all P [] all = tt
linked_all P (flop ∷ []) all = tt
linked_all P (flop ∷ next ∷ chain) all = ((all.1.0, all.0), linked_all P (next ∷ chain) all.1)

both_all : {X : Type 0} (P : X → Type 0) (front back : List X) → AllByRecursion P front → AllByRecursion P back → AllByRecursion P (front ++ back)
both_all P [] back all all' = all'
both_all P (x ∷ front) back all all' = (all.0, both_all P front back all.1 all')

all_links : (P : LineId → Type 0) (chains : List (List LineId)) → AllByRecursion (AllByRecursion P) chains
    → AllByRecursion (λ link. P link.0 × P link.1) (links_of_chains chains)
all_links P [] all = tt
all_links P (chain ∷ chains) all =
    both_all (λ link. P link.0 × P link.1) (links_along chain) (links_of_chains chains) (linked_all P chain all.0) (all_links P chains all.1)

-- ---- each flip-flop is linked once

-- no line stands twice
abbrev AreApart : List LineId → Type 0
AreApart [] = Unit {0}
AreApart (x ∷ xs) = AllByRecursion (λ y. x ≢ y) xs × AreApart xs

apart_from_pairs : (xs : List LineId) → AllPairs (λ a b. a ≢ b) xs → AreApart xs
apart_from_pairs [] pairs = tt
apart_from_pairs (x ∷ xs) pairs = (
  recursion_from_All (λ y. x ≢ y) xs (λ k d within. pairs zero (suc k) d (omega arith) (omega arith)),
  apart_from_pairs xs (λ i j d before within. pairs (suc i) (suc j) d (omega arith) (omega arith)),
)

pairs_from_apart : (links : LinkList) → AreApart (map (λ link. link.0) links) → AllPairs (λ a b. a.0 ≢ b.0) links
pairs_from_apart [] apart = λ i j d before within. absurd (omega arith)
pairs_from_apart (link ∷ links) apart =
    AllPairs-cons (λ (a b : LineId × LineId). a.0 ≢ b.0) link links
    (All-from_recursion (λ (other : LineId × LineId). link.0 ≢ other.0) links (at links apart.0)) (pairs_from_apart links apart.1)
  where
    at : (others : LinkList) → AllByRecursion (λ y. link.0 ≢ y) (map (λ other. other.0) others) → AllByRecursion (λ other. link.0 ≢ other.0) others
    at [] all = tt
    at (other ∷ others) all = (all.0, at others all.1)

-- what is linked along a chain: all but the first
heads_along : (chain : List LineId) → map (λ link. link.0) (links_along chain) ≡ drop 1 chain
heads_along [] = refl
heads_along (flop ∷ []) = refl
heads_along (flop ∷ next ∷ chain) = ap (λ (lines : List LineId). next ∷ lines) (heads_along (next ∷ chain))

abbrev tails : List (List LineId) → List LineId
tails chains = flat_map (λ chain. drop 1 chain) chains

heads_of_chains : (chains : List (List LineId)) → map (λ link. link.0) (links_of_chains chains) ≡ tails chains
heads_of_chains [] = refl
heads_of_chains (chain ∷ chains) =
    map-append (λ (link : LineId × LineId). link.0) (links_along chain) (links_of_chains chains)
    ∙ ap (λ (lines : List LineId). lines ++ map (λ link. link.0) (links_of_chains chains)) (heads_along chain)
    ∙ ap (λ (lines : List LineId). drop 1 chain ++ lines) (heads_of_chains chains)

all_behind : (P : LineId → Type 0) (front more fewer : List LineId) → (AllByRecursion P more → AllByRecursion P fewer)
    → AllByRecursion P (front ++ more) → AllByRecursion P (front ++ fewer)
all_behind P [] more fewer step all = step all
all_behind P (x ∷ front) more fewer step all = (all.0, all_behind P front more fewer step all.1)

all_tails : (P : LineId → Type 0) (chains : List (List LineId)) → AllByRecursion P (in_chains chains) → AllByRecursion P (tails chains)
all_tails P [] all = tt
all_tails P ([] ∷ chains) all = all_tails P chains all
all_tails P ((flop ∷ chain) ∷ chains) all = all_behind P chain (in_chains chains) (tails chains) (all_tails P chains) all.1

apart_behind : (front : List LineId) (chains : List (List LineId)) → (AreApart (in_chains chains) → AreApart (tails chains))
    → AreApart (front ++ in_chains chains) → AreApart (front ++ tails chains)
apart_behind [] chains step apart = step apart
apart_behind (x ∷ front) chains step apart = (
  all_behind (λ y. x ≢ y) front (in_chains chains) (tails chains) (all_tails (λ y. x ≢ y) chains) apart.0,
  apart_behind front chains step apart.1,
)

apart_tails : (chains : List (List LineId)) → AreApart (in_chains chains) → AreApart (tails chains)
apart_tails [] apart = tt
apart_tails ([] ∷ chains) apart = apart_tails chains apart
apart_tails ((flop ∷ chain) ∷ chains) apart = apart_behind chain chains (apart_tails chains) apart.1

-- the links of a circuit's chains are of flip-flops
pub links_of_flops : (c : Circuit) (chains : List (List LineId)) → AreChainsOf c chains
    → All (λ link. IsFlop c link.0 × IsFlop c link.1) (links_of_chains chains)
links_of_flops c chains are =
    All-from_recursion (λ (link : LineId × LineId). IsFlop c link.0 × IsFlop c link.1) (links_of_chains chains)
    (all_links (IsFlop c) chains (in_each (IsFlop c) chains (recursion_from_All (IsFlop c) (in_chains chains) are.flops)))

-- they are links of the circuit
pub links_of_circuit : (c : Circuit) → IsCircuit c → (chains : List (List LineId)) → AreChainsOf c chains → AreLinksOf c (links_of_chains chains)
links_of_circuit c is chains are = record {
  sources = All-weaker (λ (link : LineId × LineId). IsFlop c link.0 × IsFlop c link.1) (λ link. link.0.0 < source_count c)
      (λ link both. (flop_is_late c is link.0 both.0).1) (links_of_chains chains) (links_of_flops c chains are);
  lines = All-weaker (λ (link : LineId × LineId). IsFlop c link.0 × IsFlop c link.1) (λ link. link.1.0 < line_count c)
      (λ link both. flop_in_circuit c is link.1 both.1) (links_of_chains chains) (links_of_flops c chains are);
  once = pairs_from_apart (links_of_chains chains)
      (subst AreApart (sym (heads_of_chains chains)) (apart_tails chains (apart_from_pairs (in_chains chains) are.are.once)));
}
