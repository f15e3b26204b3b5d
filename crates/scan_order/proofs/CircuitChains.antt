-- What the chains of a circuit have: each has sources, each once, and so have their links.
use Rattle.std.proofs.Common.{◌≡◌, ◌≢◌, ◌+◌, ◌-◌, ◌<◌, ℕ, List, [], ◌∷◌, ◌++◌, length, get_or, refl, ap, subst, ◌∙◌, arith}
use Rattle.std.specs.List.{All, AllByRecursion, AllPairs}
use Rattle.std.proofs.lemmas.List.{get_or_append_left, get_or-append_right, length-append}
use Rattle.std.proofs.lemmas.List.Elements.{All-from_recursion, All-weaker, recursion_from_All}
use Rattle.pd_base.specs.declared.ids.LineId.{LineId}
use Rattle.netlist.specs.Circuit.{Circuit, source_count}
use Rattle.netlist.specs.Lawful.{IsCircuit}
use Rattle.scan_order.specs.Chains.{AreChains, AreChainsOf, IsFlop, in_chains}
use Rattle.scan_order.specs.SkewedLinks.{links_of_chains}
use Rattle.scan_order.proofs.ChainLines.{in_each}
use Rattle.scan_order.proofs.FlopNames.{flop_is_late}
use Rattle.scan_order.proofs.Linked.{links_of_flops}

-- pairs of a list are pairs of its front, and of what is behind that
pairs_front : (R : LineId → LineId → Type 0) (front rest : List LineId) → AllPairs R (front ++ rest) → AllPairs R front
pairs_front R front rest pairs i j d before within =
    let first = get_or_append_left front rest d i (omega arith) in
    let second = get_or_append_left front rest d j within in
    subst (λ (x : LineId). R x (get_or front j d)) first
    (subst (R (get_or (front ++ rest) i d)) second (pairs i j d before (omega (arith, length-append front rest, within))))

pairs_back : (R : LineId → LineId → Type 0) (front rest : List LineId) → AllPairs R (front ++ rest) → AllPairs R rest
pairs_back R front rest pairs i j d before within =
    subst (λ (x : LineId). R x (get_or rest j d)) (behind i)
    (subst (R (get_or (front ++ rest) (length front + i) d)) (behind j)
    (pairs (length front + i) (length front + j) d (omega arith) (omega (arith, length-append front rest, within))))
  where
    behind : (k : ℕ) → get_or (front ++ rest) (length front + k) d ≡ get_or rest k d
    behind k =
        get_or-append_right front rest (length front) (length front + k) d refl (omega arith)
        ∙ ap (λ (n : ℕ). get_or rest n d) (let same : length front + k - length front ≡ k = omega arith in same)

pairs_in_each : (R : LineId → LineId → Type 0) (chains : List (List LineId)) → AllPairs R (in_chains chains) → AllByRecursion (AllPairs R) chains
pairs_in_each R [] pairs = tt
pairs_in_each R (chain ∷ chains) pairs =
    (pairs_front R chain (in_chains chains) pairs, pairs_in_each R chains (pairs_back R chain (in_chains chains) pairs))

-- nothing stands twice in a chain
pub once_in_each : (chains : List (List LineId)) → AreChains chains → All (AllPairs (λ a b. a ≢ b)) chains
once_in_each chains are = All-from_recursion (AllPairs (λ a b. a ≢ b)) chains (pairs_in_each (λ a b. a ≢ b) chains are.once)

module _ (c : Circuit) (is : IsCircuit c) (chains : List (List LineId)) (are : AreChainsOf c chains) where
  -- the flip-flops of each chain are sources
  pub sources_in_each : All (All (λ line. line.0 < source_count c)) chains
  sources_in_each =
      All-weaker (AllByRecursion (IsFlop c)) (All (λ line. line.0 < source_count c))
      (λ chain flops. All-weaker (IsFlop c) (λ line. line.0 < source_count c) (λ line is_flop. (flop_is_late c is line is_flop).1) chain
      (All-from_recursion (IsFlop c) chain flops)) chains
      (All-from_recursion (AllByRecursion (IsFlop c)) chains
      (in_each (IsFlop c) chains (recursion_from_All (IsFlop c) (in_chains chains) are.flops)))

  -- so is the line of each link
  pub links_are_sources : All (λ link. link.1.0 < source_count c) (links_of_chains chains)
  links_are_sources =
      All-weaker (λ (link : LineId × LineId). IsFlop c link.0 × IsFlop c link.1) (λ link. link.1.0 < source_count c)
      (λ link both. (flop_is_late c is link.1 both.1).1) (links_of_chains chains) (links_of_flops c chains are)
