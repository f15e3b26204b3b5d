-- Paths that are sorted by their sources, then by their steps, then by their rows leave the rows in the order of a walk.
use Rattle.std.proofs.Common.{◌≡◌, ◌≢◌, Ordering, Less, Equal, Greater, false, true≢false, eqb, ℕ, zero, suc, ◌+◌, ◌<◌, ◌≤◌, List, [], ◌∷◌, ◌++◌, length, slice_get, Some, All, AllPairs, Contains, refl, sym, ap, ap₂, subst, subst₂, ◌∙◌, append-nil, arith}
use Rattle.std.specs.Borrow.{Bor}
use Rattle.std.specs.Cmp.{IsTotalOrder}
use Rattle.std.specs.Cmp.Lexicographic.{slice_cmp}
use Rattle.std.specs.List.{range_with_len}
use Rattle.std.specs.List.Sorted.{IsPermutation, IsSorted}
use Rattle.std.specs.Ordering.{is_lt, is_gt, nat_cmp, ordering_then, ordering_reverse}
use Rattle.std.proofs.lemmas.Bool.Decides.{Decides-eqb}
use Rattle.std.proofs.lemmas.Cmp.{by_ranked, lists_total, nat_cmp_total, nat_eq_equiv, on_total, ranked, then_total, tied_itself}
use Rattle.std.proofs.lemmas.List.{length-map, map-id}
use Rattle.std.proofs.lemmas.List.FromFn.{get_or-range_with_len, length-range_with_len, map-range_with_len_more}
use Rattle.std.proofs.lemmas.List.Sorted.{All-permutation, Contains-permutation, IsPermutation-map, length_permutation, ranks_by, sorted_far}
use Rattle.std.proofs.lemmas.Map.Keys.{IsDistinct-IsPermutation}
use Rattle.std.proofs.lemmas.Map.Made.{AllPairs-from_IsDistinct, IsDistinct-from_AllPairs}
use Rattle.std.proofs.lemmas.Option.{get_or_from_slice_get, slice_get_within}
use Rattle.pd_base.specs.declared.ids.LineId.{LineId}
use Rattle.pd_base.specs.declared.ids.PinRef.{PinRef}
use Rattle.pd_base.specs.Route.{Route}
use Rattle.netlist.specs.Paths.{IsPrefixOf}
use Rattle.netlist.proofs.Evaluation.{all_at_place}
use Rattle.prefix_sensitize.specs.PathOrder.{IsEntry, IsOrder, StandsInOrder, rows_in}
use Rattle.prefix_sensitize.proofs.PathOrderSteps.{between, longer_greater, pin_cmp, pins_total, same_pin}

-- a path among those that are sorted
abbrev pub Entry : Type 0
Entry = LineId × Bor (List PinRef) × ℕ

-- one row more
pub rows_more : (row : ℕ) → range_with_len 0 (row + 1) ≡ range_with_len 0 row ++ row ∷ []
rows_more row =
    sym (map-id (range_with_len 0 (row + 1))) ∙ map-range_with_len_more (λ n. n) 0 row row (omega arith)
    ∙ ap (λ rows. rows ++ row ∷ []) (map-id (range_with_len 0 row))

-- how they are compared
abbrev pub entry_cmp : Entry → Entry → Ordering
entry_cmp x y = ordering_then (ordering_then (nat_cmp x.0.0 y.0.0) (slice_cmp pin_cmp x.1.now y.1.now)) (nat_cmp x.2 y.2)

pub entries_total : IsTotalOrder entry_cmp
entries_total =
    then_total
    (then_total (on_total (λ (entry : Entry). entry.0.0) nat_cmp_total)
    (on_total (λ (entry : Entry). entry.1.now) (lists_total pins_total)))
    (on_total (λ (entry : Entry). entry.2) nat_cmp_total)

-- the path of an entry
abbrev route_of : Entry → Route
route_of entry = record { source = entry.0; steps = entry.1.now }

-- what is not greater by two orders together is not greater by the first
not_greater_first : (first second : Ordering) → is_gt (ordering_then first second) ≡ false → is_gt first ≡ false
not_greater_first Less second low = refl
not_greater_first Equal second low = refl
not_greater_first Greater second low = low

-- nor by the second, where the first calls them equal
not_greater_second : (first second : Ordering) → first ≡ Equal → is_gt (ordering_then first second) ≡ false → is_gt second ≡ false
not_greater_second first second equal low = sym (ap (λ o. is_gt (ordering_then o second)) equal) ∙ low

-- an order turned round
greater_reversed : (o : Ordering) → is_gt (ordering_reverse o) ≡ is_lt o
greater_reversed Less = refl
greater_reversed Equal = refl
greater_reversed Greater = refl

-- a number that is not greater
no_greater : (a b : ℕ) → is_gt (nat_cmp a b) ≡ false → a ≤ b
no_greater a b low =
    by_ranked (a < b) (a ≡ b) (b < a) (nat_cmp a b) (ranked a b (nat_cmp a b) refl) (λ o less. omega arith) (λ o equal. omega arith)
    (λ o more. absurd (true≢false (sym (ap is_gt o) ∙ low)))

module _ (x y : Entry) (low : is_gt (entry_cmp x y) ≡ false) where
  -- of two entries, the first of which is not greater, the sources are in order
  sources_rise : x.0.0 ≤ y.0.0
  sources_rise =
      no_greater x.0.0 y.0.0
      (not_greater_first (nat_cmp x.0.0 y.0.0) (slice_cmp pin_cmp x.1.now y.1.now)
      (not_greater_first (ordering_then (nat_cmp x.0.0 y.0.0) (slice_cmp pin_cmp x.1.now y.1.now)) (nat_cmp x.2 y.2) low))

  -- and at one source the steps
  steps_rise : x.0.0 ≡ y.0.0 → is_gt (slice_cmp pin_cmp x.1.now y.1.now) ≡ false
  steps_rise same =
      not_greater_second (nat_cmp x.0.0 y.0.0) (slice_cmp pin_cmp x.1.now y.1.now)
      (ap (nat_cmp x.0.0) (sym same) ∙ tied_itself nat_cmp_total x.0.0)
      (not_greater_first (ordering_then (nat_cmp x.0.0 y.0.0) (slice_cmp pin_cmp x.1.now y.1.now)) (nat_cmp x.2 y.2) low)

  -- a path of which the other is a prefix is that one
  first_is_prefix : IsPrefixOf (route_of y) (route_of x) → route_of x ≡ route_of y
  first_is_prefix of =
      let steps = ends of.rest of.steps in
      λ i. record { source = sym of.source i; steps = steps i }
    where
      ends : (rest : List PinRef) → y.1.now ++ rest ≡ x.1.now → x.1.now ≡ y.1.now
      ends [] same = sym same ∙ append-nil y.1.now
      ends (step ∷ rest) same =
          absurd (true≢false
          (sym (ap is_gt (longer_greater pin_cmp pins_total same_pin y.1.now step rest))
          ∙ ap (λ steps. is_gt (slice_cmp pin_cmp steps y.1.now)) same
          ∙ steps_rise (ap (λ (line : LineId). line.0) (sym of.source))))

-- between two entries with one prefix stand entries with that prefix
entries_together : (x y z : Entry) (prefix : Route) → is_gt (entry_cmp x y) ≡ false → is_gt (entry_cmp y z) ≡ false
    → IsPrefixOf prefix (route_of x) → IsPrefixOf prefix (route_of z) → IsPrefixOf prefix (route_of y)
entries_together x y z prefix low high of_x of_z =
    record { source = λ i. record { 0 = at_y i }; rest = found.0; steps = found.1 }
  where
    at_x : prefix.source.0 ≡ x.0.0
    at_x = ap (λ (line : LineId). line.0) of_x.source

    at_z : prefix.source.0 ≡ z.0.0
    at_z = ap (λ (line : LineId). line.0) of_z.source

    at_y : prefix.source.0 ≡ y.0.0
    at_y = omega (arith, at_x, at_z, sources_rise x y low, sources_rise y z high)

    found : (more : List PinRef) × (prefix.steps ++ more ≡ y.1.now)
    found =
        between pin_cmp pins_total same_pin prefix.steps of_x.rest y.1.now of_z.rest
        (ap (λ steps. is_gt (slice_cmp pin_cmp steps y.1.now)) of_x.steps ∙ steps_rise x y low (sym at_x ∙ at_y))
        (ap (λ steps. is_gt (slice_cmp pin_cmp y.1.now steps)) of_z.steps ∙ steps_rise y z high (sym at_y ∙ at_z))

-- the entry whose row stands at a place
placed_entry : (entries : List Entry) (place row : ℕ) → slice_get (rows_in entries) place ≡ Some row
    → (entry : Entry) × (slice_get entries place ≡ Some entry) × (entry.2 ≡ row)
placed_entry [] place row at = let no : ⊥ = cc in absurd no
placed_entry (entry ∷ entries) zero row at = (entry, refl, cc)
placed_entry (entry ∷ entries) (suc place) row at = placed_entry entries place row at

module _ (routes : List Route) (entries ranked : List Entry) (listed : All (IsEntry routes) entries)
    (rows : rows_in entries ≡ range_with_len 0 (length routes)) (moved : IsPermutation entries ranked)
    (sorted : IsSorted entry_cmp ranked) where
  -- the entry of the path at a place
  stands_entry : (place row : ℕ) (path : Route) → StandsInOrder routes (rows_in ranked) place row path
      → (entry : Entry) × (slice_get ranked place ≡ Some entry) × (path ≡ route_of entry)
  stands_entry place row path stands =
      let found = placed_entry ranked place row stands.is_placed in
      let is = all_at_place (IsEntry routes) ranked place found.0 (All-permutation (IsEntry routes) entries ranked moved listed) found.1 in
      let same : Some path ≡ Some (route_of found.0) =
      sym stands.is_listed ∙ ap (slice_get routes) (sym found.2) ∙ is.is_listed in
      (found.0, found.1, cc)

  -- an entry is not greater than those behind it
  not_greater : (first last : ℕ) (x y : Entry) → slice_get ranked first ≡ Some x → slice_get ranked last ≡ Some y → first ≤ last
      → is_gt (entry_cmp x y) ≡ false
  not_greater first last x y at_first at_last rising =
      ap is_gt (entries_total.antisymm x y)
      ∙ greater_reversed (entry_cmp y x)
      ∙ ap₂ (λ a b. is_lt (entry_cmp a b)) (sym (get_or_from_slice_get ranked last y x at_last))
      (sym (get_or_from_slice_get ranked first x x at_first))
      ∙ sorted_far (λ a b. is_lt (entry_cmp a b)) (ranks_by entries_total (λ (entry : Entry). entry)) ranked sorted first last x
      rising (slice_get_within ranked last y at_last)

  rows_moved : IsPermutation (rows_in entries) (rows_in ranked)
  rows_moved = IsPermutation-map (λ (entry : Entry). entry.2) entries ranked moved

  -- the rows are all different
  numbered_once : AllPairs (λ a b. a ≢ b) (range_with_len 0 (length routes))
  numbered_once i j d before within same =
      let long = length-range_with_len 0 (length routes) in
      let at_i = get_or-range_with_len 0 (length routes) i d (omega arith) in
      let at_j = get_or-range_with_len 0 (length routes) j d (omega arith) in
      omega (arith, at_i, at_j, same)

  rows_once : AllPairs (λ a b. a ≢ b) (rows_in ranked)
  rows_once =
      AllPairs-from_IsDistinct Decides-eqb (rows_in ranked)
      (IsDistinct-IsPermutation eqb nat_eq_equiv.symm (rows_in entries) (rows_in ranked) rows_moved
      (IsDistinct-from_AllPairs Decides-eqb (rows_in entries) (subst (AllPairs (λ a b. a ≢ b)) (sym rows) numbered_once)))

  -- each row of the list is there, and no other
  rows_inside : All (λ row. row < length routes) (rows_in ranked)
  rows_inside =
      All-permutation (λ row. row < length routes) (rows_in entries) (rows_in ranked) rows_moved
      (subst (All (λ row. row < length routes)) (sym rows)
      (λ k d within.
      let inside : k < length routes = omega (arith, length-range_with_len 0 (length routes)) in
      omega (arith, get_or-range_with_len 0 (length routes) k d inside)))

  rows_whole : (row : ℕ) → row < length routes → Contains (rows_in ranked) row
  rows_whole row within =
      Contains-permutation (rows_in entries) (rows_in ranked) row rows_moved
      (subst (λ list. Contains list row) (sym rows) (
        row,
        omega (arith, length-range_with_len 0 (length routes)),
        get_or-range_with_len 0 (length routes) row row within ∙ omega arith,
      ))

  -- the rows stand in the order of a walk
  pub are_in_order : IsOrder routes (rows_in ranked)
  are_in_order = record {
    one_each =
        length-map ranked (λ (entry : Entry). entry.2) ∙ length_permutation entries ranked moved
        ∙ sym (length-map entries (λ (entry : Entry). entry.2)) ∙ ap length rows ∙ length-range_with_len 0 (length routes);
    inside = rows_inside;
    once = rows_once;
    whole = rows_whole;
    together = λ first middle last a b c p q r prefix at_p at_q at_r rising further of_p of_r.
        let x = stands_entry first a p at_p in
        let y = stands_entry middle b q at_q in
        let z = stands_entry last c r at_r in
        subst (IsPrefixOf prefix) (sym y.2)
        (entries_together x.0 y.0 z.0 prefix (not_greater first middle x.0 y.0 x.1 y.1 rising)
        (not_greater middle last y.0 z.0 y.1 z.1 further)
        (subst (IsPrefixOf prefix) x.2 of_p) (subst (IsPrefixOf prefix) z.2 of_r));
    prefixes_first = λ first last a b p q at_p at_q before of.
        let x = stands_entry first a p at_p in
        let y = stands_entry last b q at_q in
        x.2
        ∙ first_is_prefix x.0 y.0 (not_greater first last x.0 y.0 x.1 y.1 (omega arith))
        (subst₂ IsPrefixOf y.2 x.2 of)
        ∙ sym y.2;
  }
