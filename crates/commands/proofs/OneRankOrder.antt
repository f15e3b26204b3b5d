-- Two lists that rise in one order, and hold the same, are one. So a circuit has one rank order.
use Rattle.std.proofs.Common.{◌≡◌, zero, suc, ◌<◌, List, [], ◌∷◌, refl, sym, ap₂, subst, ◌∙◌, arith}
use Rattle.std.specs.List.{AllPairs, Contains}
use Rattle.std.proofs.lemmas.List.Elements.{All-contains}
use Rattle.pd_base.specs.declared.ids.GateId.{GateId}
use Rattle.netlist.specs.Circuit.{Circuit, gate_count}
use Rattle.netlist.specs.Levels.{IsRankedBefore, IsRankOrder}
use Rattle.netlist.specs.Levels.IsRankedBefore.{lower_level, lesser_number}

module _ {X : Type 0} (Before : X → X → Type 0) (one_way : (a b : X) → Before a b → Before b a → ⊥) where
  -- the first items are the same
  one_head : (x y : X) (xs ys : List X) → AllPairs Before (x ∷ xs) → AllPairs Before (y ∷ ys) → Contains (y ∷ ys) x
      → Contains (x ∷ xs) y → x ≡ y
  one_head x y xs ys rising other (zero, within, at) found = sym at
  one_head x y xs ys rising other (suc k, within, at) (zero, inside, here) = here
  one_head x y xs ys rising other (suc k, within, at) (suc j, inside, here) =
      let first : Before y x = subst (Before y) at (other zero (suc k) x (omega arith) within) in
      let second : Before x y = subst (Before x) here (rising zero (suc j) y (omega arith) inside) in
      absurd (one_way x y second first)

  -- what stands behind the first item is no first item
  tail_has : (x y : X) (xs ys : List X) → AllPairs Before (x ∷ xs) → x ≡ y
      → ((z : X) → Contains (x ∷ xs) z → Contains (y ∷ ys) z) → (z : X) → Contains xs z → Contains ys z
  tail_has x y xs ys rising same has z (k, within, at) = behind (has z (suc k, omega arith, at))
    where
      later : Before x z
      later = subst (Before x) at (rising zero (suc k) z (omega arith) (omega arith))

      behind : Contains (y ∷ ys) z → Contains ys z
      behind (zero, inside, here) =
          let itself : Before z z = subst (λ w. Before w z) (same ∙ here) later in absurd (one_way z z itself itself)
      behind (suc j, inside, here) = (j, omega arith, here)

  -- the items behind the first rise
  tail_rises : (x : X) (xs : List X) → AllPairs Before (x ∷ xs) → AllPairs Before xs
  tail_rises x xs rising = λ i j d less within. rising (suc i) (suc j) d (omega arith) (omega arith)

  -- such lists are one
  pub one_rising : (xs ys : List X) → AllPairs Before xs → AllPairs Before ys → ((z : X) → Contains xs z → Contains ys z)
      → ((z : X) → Contains ys z → Contains xs z) → xs ≡ ys
  one_rising [] [] rising other has back = refl
  one_rising [] (y ∷ ys) rising other has back = let found = back y (zero, omega arith, refl) in absurd (omega (arith, found.1))
  one_rising (x ∷ xs) [] rising other has back = let found = has x (zero, omega arith, refl) in absurd (omega (arith, found.1))
  one_rising (x ∷ xs) (y ∷ ys) rising other has back =
      let same = one_head x y xs ys rising other (has x (zero, omega arith, refl)) (back y (zero, omega arith, refl)) in
      ap₂ ◌∷◌ same
      (one_rising xs ys (tail_rises x xs rising) (tail_rises y ys other) (tail_has x y xs ys rising same has)
      (tail_has y x ys xs other (sym same) back))

module _ (c : Circuit) where
  -- of two gates one at most is ranked before the other
  one_way_ranked : (a b : GateId) → IsRankedBefore c a b → IsRankedBefore c b a → ⊥
  one_way_ranked a b (lower_level below) (lower_level above) = omega arith
  one_way_ranked a b (lower_level below) (lesser_number same less) = omega arith
  one_way_ranked a b (lesser_number same less) (lower_level above) = omega arith
  one_way_ranked a b (lesser_number same less) (lesser_number also more) = omega arith

  -- a gate of one rank order is in each
  also_ranked : (one other : List GateId) → IsRankOrder c one → IsRankOrder c other → (gate : GateId) → Contains one gate
      → Contains other gate
  also_ranked one other ranked also gate among =
      also.whole gate.0 (All-contains (λ (g : GateId). g.0 < gate_count c) one gate ranked.in_circuit among)

  -- there is one rank order
  pub one_rank_order : (one other : List GateId) → IsRankOrder c one → IsRankOrder c other → one ≡ other
  one_rank_order one other ranked also =
      one_rising (IsRankedBefore c) one_way_ranked one other ranked.rising also.rising (also_ranked one other ranked also)
      (also_ranked other one also ranked)
