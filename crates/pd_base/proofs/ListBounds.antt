-- Lists within bounds: how many there are, what stands at each place, how many items those before it have, and what a list more
-- makes of them.
use Rattle.std.proofs.Common.{◌≡◌, ℕ, zero, suc, ◌+◌, ◌-◌, ◌<◌, ◌≤◌, List, [], ◌∷◌, ◌++◌, take, drop, length, get_or, sum_by, refl, ap, ap₂, ◌∙◌, arith}
use Rattle.std.proofs.lemmas.List.{length-append, length-take-le, length-drop, take-append-le, drop-append-le}
use Rattle.std.proofs.lemmas.List.Sums.{sum_by-cons}
use Rattle.std.proofs.Math.Seq.{drop-append_seam, take-length}
use Rattle.pd_base.specs.FlatLists.{items_between, lists_within, RiseTo, AreBounds}

-- the first bound is not past the last
first_within : (end first : ℕ) (bounds : List ℕ) → RiseTo end (first ∷ bounds) → first ≤ end
first_within end first [] rise = omega (arith, rise)
first_within end first (next ∷ bounds) rise = omega (arith, rise.0, first_within end next bounds rise.1)

module _ {X : Type 0} (items : List X) where
  -- there is one bound more than lists
  length_within : (end : ℕ) (bounds : List ℕ) → RiseTo end bounds → length (lists_within items bounds) + 1 ≡ length bounds
  length_within end [] rise = absurd rise
  length_within end (first ∷ []) rise = refl
  length_within end (first ∷ next ∷ bounds) rise = omega (arith, length_within end (next ∷ bounds) rise.1)

  -- so many items stand between two bounds
  length_between : (first next : ℕ) → first ≤ next → next ≤ length items → length (items_between items first next) ≡ next - first
  length_between first next rises within =
      length-take-le (next - first) (drop first items) (omega (arith, length-drop first items))

  -- a list, and the bounds that it stands between
  pub record IsListAt (bounds : List ℕ) (at : ℕ) : Type 0 where
    pub list : get_or (lists_within items bounds) at [] ≡ items_between items (get_or bounds at 0) (get_or bounds (suc at) 0)
    pub rises : get_or bounds at 0 ≤ get_or bounds (suc at) 0
    pub within : get_or bounds (suc at) 0 ≤ length items

  pub list_at : (bounds : List ℕ) (at : ℕ) → RiseTo (length items) bounds → at + 1 < length bounds → IsListAt bounds at
  list_at [] at rise below = absurd rise
  list_at (first ∷ []) at rise below = absurd (omega arith)
  list_at (first ∷ next ∷ bounds) zero rise below = record {
    list = refl;
    rises = rise.0;
    within = first_within (length items) next bounds rise.1;
  }
  list_at (first ∷ next ∷ bounds) (suc at) rise below =
      let later = list_at (next ∷ bounds) at rise.1 (omega arith) in
      record { list = later.list; rises = later.rises; within = later.within }

  -- the items of the lists before a bound are those before it, from the first bound on
  items_before : (first : ℕ) (bounds : List ℕ) (at : ℕ) → RiseTo (length items) (first ∷ bounds) → at < length (first ∷ bounds)
      → first + sum_by length (take at (lists_within items (first ∷ bounds))) ≡ get_or (first ∷ bounds) at 0
  items_before first bounds zero rise below = omega arith
  items_before first [] (suc at) rise below = absurd (omega arith)
  items_before first (next ∷ bounds) (suc at) rise below =
      let one_more : sum_by length (take (suc at) (lists_within items (first ∷ next ∷ bounds)))
      ≡ length (items_between items first next) + sum_by length (take at (lists_within items (next ∷ bounds))) =
      sum_by-cons length (items_between items first next) (take at (lists_within items (next ∷ bounds))) in
      omega (
        arith,
        one_more,
        rise.0,
        items_before next bounds at rise.1 (omega arith),
        length_between first next rise.0 (first_within (length items) next bounds rise.1),
      )

  -- all items are in some list
  items_of_all : (first : ℕ) (bounds : List ℕ) → RiseTo (length items) (first ∷ bounds)
      → first + sum_by length (lists_within items (first ∷ bounds)) ≡ length items
  items_of_all first [] rise = omega (arith, rise)
  items_of_all first (next ∷ bounds) rise =
      let one_more : sum_by length (lists_within items (first ∷ next ∷ bounds))
      ≡ length (items_between items first next) + sum_by length (lists_within items (next ∷ bounds)) =
      sum_by-cons length (items_between items first next) (lists_within items (next ∷ bounds)) in
      omega (
        arith,
        one_more,
        rise.0,
        items_of_all next bounds rise.1,
        length_between first next rise.0 (first_within (length items) next bounds rise.1),
      )

  module _ (more : List X) where
    -- what stands between two bounds stays where items are put behind
    between_stays : (first next : ℕ) → first ≤ next → next ≤ length items
        → items_between (items ++ more) first next ≡ items_between items first next
    between_stays first next rises within =
        ap (take (next - first)) (drop-append-le first items more (omega arith))
        ∙ take-append-le (next - first) (drop first items) more (omega (arith, length-drop first items))

    -- the items that are put behind are the last list
    between_last : (first : ℕ) → first ≡ length items → items_between (items ++ more) first (length (items ++ more)) ≡ more
    between_last first is =
        ap (λ at. take (length (items ++ more) - at) (drop at (items ++ more))) is
        ∙ ap (take (length (items ++ more) - length items)) (drop-append_seam items more)
        ∙ ap (λ n. take n more) (omega (arith, length-append items more))
        ∙ take-length more

    -- with one bound more there is one list more
    pub lists_more : (bounds : List ℕ) → RiseTo (length items) bounds
        → lists_within (items ++ more) (bounds ++ length (items ++ more) ∷ []) ≡ lists_within items bounds ++ more ∷ []
    lists_more [] rise = absurd rise
    lists_more (last ∷ []) rise = ap (λ list. list ∷ []) (between_last last rise)
    lists_more (first ∷ next ∷ bounds) rise =
        ap₂ (λ list lists. list ∷ lists)
        (between_stays first next rise.0 (first_within (length items) next bounds rise.1))
        (lists_more (next ∷ bounds) rise.1)

    -- and the bounds rise to the new end
    rise_more : (bounds : List ℕ) → RiseTo (length items) bounds
        → RiseTo (length (items ++ more)) (bounds ++ length (items ++ more) ∷ [])
    rise_more [] rise = absurd rise
    rise_more (last ∷ []) rise = (omega (arith, rise, length-append items more), refl)
    rise_more (first ∷ next ∷ bounds) rise = (rise.0, rise_more (next ∷ bounds) rise.1)

    -- the first bound stays
    first_more : (bounds : List ℕ) → RiseTo (length items) bounds → get_or (bounds ++ length (items ++ more) ∷ []) 0 0 ≡ get_or bounds 0 0
    first_more [] rise = absurd rise
    first_more (first ∷ bounds) rise = refl

    pub bounds_more : (bounds : List ℕ) → AreBounds items bounds
        → AreBounds (items ++ more) (bounds ++ length (items ++ more) ∷ [])
    bounds_more bounds are = record {
      first = first_more bounds are.rise ∙ are.first;
      rise = rise_more bounds are.rise;
    }

  -- how many lists there are
  pub lists_count : (bounds : List ℕ) → AreBounds items bounds → length (lists_within items bounds) + 1 ≡ length bounds
  lists_count bounds are = length_within (length items) bounds are.rise

  -- the items of all lists are all items
  pub items_count : (bounds : List ℕ) → AreBounds items bounds → sum_by length (lists_within items bounds) ≡ length items
  items_count [] are = absurd are.rise
  items_count (first ∷ bounds) are = omega (arith, are.first, items_of_all first bounds are.rise)

  -- the bound at which a list begins is the number of items of the lists before it
  pub first_place : (bounds : List ℕ) (at : ℕ) → AreBounds items bounds → at < length bounds
      → sum_by length (take at (lists_within items bounds)) ≡ get_or bounds at 0
  first_place [] at are below = absurd are.rise
  first_place (first ∷ bounds) at are below = omega (arith, are.first, items_before first bounds at are.rise below)
