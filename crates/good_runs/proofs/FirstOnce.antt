-- A circuit has one list of first paths.
use Rattle.std.proofs.Common.{◌≡◌, ◌⊎◌, ⊎_elim, inl, inr, ℕ, zero, suc, ◌≤◌, List, [], ◌∷◌, ◌++◌, length, get_or, refl, sym, ap, subst, ◌∙◌, append_assoc, append-nil, length-append, arith}
use Rattle.std.specs.Prelude.{Contains}
use Rattle.std.proofs.lemmas.List.Elements.{All-contains}
use Rattle.pd_base.specs.Route.{Route}
use Rattle.netlist.specs.Circuit.{Circuit}
use Rattle.netlist.specs.Order.{AreFirst, IsBefore, IsFull, IsRising}
use Rattle.netlist.specs.Order.IsFull.{so_many, all_paths}
use Rattle.netlist.specs.Paths.{IsPath}
use Rattle.netlist.specs.Waves.{Delays}
use Rattle.good_runs.proofs.PathsInOrder.{not_before_itself, one_stands_before, stands_before}

-- the place behind a front is in the whole list
behind_front : (front : List Route) (p : Route) (rest : List Route) → Contains (front ++ p ∷ rest) p
behind_front [] p rest = (zero, omega (arith, length-append (p ∷ []) rest), refl)
behind_front (first ∷ front) p rest =
    let more = behind_front front p rest in (suc more.0, omega (arith, more.1), more.2)

-- what is in a list is in its front or behind it
in_front_or_behind : (front rest : List Route) (p : Route) → Contains (front ++ rest) p → Contains front p ⊎ Contains rest p
in_front_or_behind [] rest p there = inr there
in_front_or_behind (first ∷ front) rest p (zero, within, is) = inl (zero, omega arith, is)
in_front_or_behind (first ∷ front) rest p (suc place, within, is) =
    ⊎_elim (λ (ahead : Contains front p). inl (suc ahead.0, omega (arith, ahead.1), ahead.2)) (λ (past : Contains rest p). inr past)
    (in_front_or_behind front rest p (place, omega arith, is))

module _ (delays : Delays) where
  pub rest_rising : (first : Route) (paths : List Route) → IsRising delays (first ∷ paths) → IsRising delays paths
  rest_rising first [] rising = tt
  rest_rising first (second ∷ paths) rising = rising.1

  behind_rising : (front rest : List Route) → IsRising delays (front ++ rest) → IsRising delays rest
  behind_rising [] rest rising = rising
  behind_rising (first ∷ front) rest rising = behind_rising front rest (rest_rising first (front ++ rest) rising)

  -- what is a route, or stands before it, stands before what that stands before
  still_before : (p q next : Route) → (p ≡ q) ⊎ IsBefore delays p q → IsBefore delays q next → IsBefore delays p next
  still_before p q next before less =
      ⊎_elim (λ (same : p ≡ q). subst (λ (r : Route). IsBefore delays r next) (sym same) less)
      (λ (ahead : IsBefore delays p q). stands_before delays p q next ahead less) before

  -- a route before the first of rising ones, or at it, is not among those behind
  not_behind : (p q : Route) (paths : List Route) → IsRising delays (q ∷ paths) → (p ≡ q) ⊎ IsBefore delays p q → ¬ Contains paths p
  not_behind p q [] rising before (place, within, is) = absurd (omega arith)
  not_behind p q (next ∷ paths) rising before (zero, within, is) =
      let same : next ≡ p = is in
      not_before_itself delays p (subst (IsBefore delays p) same (still_before p q next before rising.0))
  not_behind p q (next ∷ paths) rising before (suc place, within, is) =
      not_behind p next paths rising.1 (inr (still_before p q next before rising.0)) (place, omega arith, is)

  -- nor is it among them where it stands before the first
  not_among : (p q : Route) (paths : List Route) → IsRising delays (q ∷ paths) → IsBefore delays p q → ¬ Contains (q ∷ paths) p
  not_among p q paths rising less (zero, within, is) =
      let same : q ≡ p = is in not_before_itself delays p (subst (IsBefore delays p) same less)
  not_among p q paths rising less (suc place, within, is) = not_behind p q paths rising (inr less) (place, omega arith, is)

  -- what stands behind a front is not in it
  not_in_front : (front : List Route) (p : Route) (rest : List Route) → IsRising delays (front ++ p ∷ rest) → ¬ Contains front p
  not_in_front [] p rest rising (place, within, is) = absurd (omega arith)
  not_in_front (first ∷ front) p rest rising (zero, within, is) =
      let same : first ≡ p = is in
      not_behind p first (front ++ p ∷ rest) rising (inl (sym same)) (behind_front front p rest)
  not_in_front (first ∷ front) p rest rising (suc place, within, is) =
      not_in_front front p rest (rest_rising first (front ++ p ∷ rest) rising) (place, omega arith, is)

module _ (c : Circuit) (delays : Delays) (count : ℕ) where
  -- no more paths than were asked for
  pub few_first : (routes : List Route) → IsFull c count routes → length routes ≤ count
  few_first routes (so_many same) = omega (arith, same)
  few_first routes (all_paths fewer all) = omega (arith, fewer)

  -- with a front that both lists have, a path behind it in one of them is not before what the other has there
  module _ (front more others : List Route) (p q : Route) (mine : AreFirst c delays count (front ++ p ∷ more))
      (its : AreFirst c delays count (front ++ q ∷ others)) where
    not_less : IsBefore delays p q → ⊥
    not_less less =
        its.none_before p (All-contains (IsPath c) (front ++ p ∷ more) p mine.are_paths (behind_front front p more))
        (λ there. ⊎_elim (not_in_front delays front p more mine.rising)
        (not_among delays p q others (behind_rising delays front (q ∷ others) its.rising) less)
        (in_front_or_behind front (q ∷ others) p there))
        (length front) p (omega (arith, length-append front (q ∷ others), length-append (q ∷ []) others))
        (subst (IsBefore delays p) (sym (at_front front q others p)) less)
      where
        at_front : (ahead : List Route) (r : Route) (rest : List Route) (d : Route) → get_or (ahead ++ r ∷ rest) (length ahead) d ≡ r
        at_front [] r rest d = refl
        at_front (first ∷ ahead) r rest d = at_front ahead r rest d

  -- a list that ends has all paths, or as many as were asked for
  not_shorter : (front : List Route) (p : Route) (more : List Route) → AreFirst c delays count (front ++ p ∷ more)
      → IsFull c count (front ++ []) → ⊥
  not_shorter front p more mine (so_many same) =
      let most = few_first (front ++ p ∷ more) mine.full in
      let long = length-append front (p ∷ more) in
      let short = length-append front [] in
      absurd (omega arith)
  not_shorter front p more mine (all_paths fewer all) =
      not_in_front delays front p more mine.rising
      (subst (λ (routes : List Route). Contains routes p) (append-nil front)
      (all p (All-contains (IsPath c) (front ++ p ∷ more) p mine.are_paths (behind_front front p more))))

  same_behind : (front more others : List Route) → AreFirst c delays count (front ++ more) → AreFirst c delays count (front ++ others)
      → more ≡ others
  same_behind front [] [] mine its = refl
  same_behind front (p ∷ more) [] mine its = absurd (not_shorter front p more mine its.full)
  same_behind front [] (q ∷ others) mine its = absurd (not_shorter front q others its mine.full)
  same_behind front (p ∷ more) (q ∷ others) mine its =
      ⊎_elim
      (λ (same : p ≡ q).
      let First : List Route → Type 0 = λ routes. AreFirst c delays count routes in
      let here : front ++ q ∷ others ≡ (front ++ p ∷ []) ++ others =
      ap (λ (r : Route). front ++ r ∷ others) (sym same) ∙ sym (append_assoc front (p ∷ []) others) in
      let rest = same_behind (front ++ p ∷ []) more others (subst First (sym (append_assoc front (p ∷ []) more)) mine) (subst First here its) in
      λ i. same i ∷ rest i)
      (λ (differ : IsBefore delays p q ⊎ IsBefore delays q p).
      absurd (⊎_elim (not_less front more others p q mine its) (not_less front others more q p its mine) differ))
      (one_stands_before delays p q)

  -- so they are the same
  pub first_once : (routes others : List Route) → AreFirst c delays count routes → AreFirst c delays count others → routes ≡ others
  first_once routes others = same_behind [] routes others
