-- Names sorted with the numbers of their lines leave the lines in the order of their names.
use Rattle.std.proofs.Common.{◌≡◌, ⊎_elim, ◌⊎◌, inl, inr, Ordering, Less, Equal, Greater, false, true≢false, ℕ, zero, suc, ◌+◌, ◌<◌, ◌≤◌, List, [], ◌∷◌, ◌++◌, length, map, get_or, All, Contains, refl, sym, ap, ap₂, subst, ◌∙◌, arith}
use Rattle.std.specs.Borrow.{Bor}
use Rattle.std.specs.List.{range_with_len}
use Rattle.std.specs.List.Sorted.{IsPermutation, IsSorted}
use Rattle.std.specs.Cmp.Lexicographic.{slice_cmp}
use Rattle.std.specs.Ordering.{is_lt, nat_cmp, ordering_then}
use Rattle.std.proofs.lemmas.Bool.{cases_order}
use Rattle.std.proofs.lemmas.List.{get_or-map, length-map}
use Rattle.std.proofs.lemmas.List.FromFn.{get_or-range_with_len, length-range_with_len}
use Rattle.std.proofs.lemmas.List.Elements.{All-map, Contains-get_or}
use Rattle.std.proofs.lemmas.List.Sorted.{All-permutation, Contains-permutation, length_permutation}
use Rattle.pd_base.specs.declared.ids.LineId.{LineId}
use Rattle.netlist.specs.Names.{IsByName, IsName}
use Rattle.net_builder.specs.NameOrder.{IsNamed, lines_in}
use Rattle.net_builder.proofs.FirstBytes.{bytes_of_name, first_no_greater}
use Rattle.net_builder.proofs.Ranking.{cmp_equal, cmp_less}

-- a line's entry among those that are sorted
abbrev pub Entry : Type 0
Entry = ℕ × Bor (List ℕ) × ℕ

-- how entries are compared
abbrev pub entry_cmp : Entry → Entry → Ordering
entry_cmp x y = ordering_then (ordering_then (nat_cmp x.0 y.0) (slice_cmp nat_cmp x.1.now y.1.now)) (nat_cmp x.2 y.2)

-- one number more
pub numbers_more : (first count : ℕ) → range_with_len first (suc count) ≡ range_with_len first count ++ (first + count) ∷ []
numbers_more first zero = ap (λ n. n ∷ []) (omega arith)
numbers_more first (suc count) =
    ap (λ more. first ∷ more)
    (numbers_more (first + 1) count ∙ ap (λ n. range_with_len (first + 1) count ++ n ∷ []) (omega arith))

-- what is not below by two orders together is not below by the first
not_below : (first second : Ordering) → is_lt (ordering_then first second) ≡ false → is_lt first ≡ false
not_below Less second above = above
not_below Equal second above = refl
not_below Greater second above = above

-- nor by the second, where the first is no greater if the second is less
not_below_second : (first second : Ordering) → (second ≡ Less → (first ≡ Less) ⊎ (first ≡ Equal))
    → is_lt (ordering_then first second) ≡ false → is_lt second ≡ false
not_below_second first Less no_greater above =
    ⊎_elim (λ less. absurd (true≢false (sym (ap (λ o. is_lt (ordering_then o Less)) less) ∙ above)))
    (λ equal. absurd (true≢false (sym (ap (λ o. is_lt (ordering_then o Less)) equal) ∙ above))) (no_greater refl)
not_below_second first Equal no_greater above = refl
not_below_second first Greater no_greater above = refl

-- `cmp` at a number that is no greater
no_greater_cmp : (a b : ℕ) → a ≤ b → (nat_cmp a b ≡ Less) ⊎ (nat_cmp a b ≡ Equal)
no_greater_cmp a b low =
    ⊎_elim (λ same. inr (cmp_equal a b same))
    (λ apart. ⊎_elim (λ below. inl (cmp_less a b below)) (λ above. absurd (omega arith)) apart) (cases_order a b)

-- the line of an entry
abbrev line_of_entry : Entry → LineId
line_of_entry entry = record { 0 = entry.2 }

module _ (names : List (List ℕ)) (are_names : All IsName names) (named : List Entry) (each : All (IsNamed names) named)
    (numbered : map (λ entry. entry.2) named ≡ range_with_len 0 (length names)) where
  -- an entry for each name
  as_many : length named ≡ length names
  as_many =
      sym (length-map named (λ (entry : Entry). entry.2)) ∙ ap length numbered ∙ length-range_with_len 0 (length names)

  -- whose number is its place
  number_at : (k : ℕ) (d : Entry) → k < length names → (get_or named k d).2 ≡ k
  number_at k d within =
      sym (get_or-map (λ (entry : Entry). entry.2) named k d 0 (omega (arith, as_many)))
      ∙ ap (λ numbers. get_or numbers k 0) numbered
      ∙ get_or-range_with_len 0 (length names) k 0 within
      ∙ (omega arith)

  -- so it is below their number
  in_range : All (λ (entry : Entry). entry.2 < length names) named
  in_range k d within = omega (arith, as_many, number_at k d (omega (arith, as_many)))

  module _ (some : Entry) (ranked : List Entry) (moved : IsPermutation named ranked) (sorted : IsSorted entry_cmp ranked) where
    each_ranked : All (IsNamed names) ranked
    each_ranked = All-permutation (IsNamed names) named ranked moved each

    ranked_in_range : All (λ (entry : Entry). entry.2 < length names) ranked
    ranked_in_range = All-permutation (λ (entry : Entry). entry.2 < length names) named ranked moved in_range

    line_at : (k : ℕ) (d : LineId) → k < length ranked → get_or (lines_in ranked) k d ≡ line_of_entry (get_or ranked k some)
    line_at k d within = get_or-map line_of_entry ranked k some d within

    -- the name of a line is that of its entry
    name_of_line : (k : ℕ) (d : LineId) → k < length ranked
        → get_or names (get_or (lines_in ranked) k d).0 [] ≡ (get_or ranked k some).1.now
    name_of_line k d within =
        ap (λ (line : LineId). get_or names line.0 []) (line_at k d within) ∙ sym (each_ranked k some within).name

    -- no name is less than the one before it
    name_after : (k : ℕ) → k + 1 < length ranked
        → is_lt (slice_cmp nat_cmp (get_or ranked (k + 1) some).1.now (get_or ranked k some).1.now) ≡ false
    name_after k within =
        not_below_second (nat_cmp next.0 own.0) (slice_cmp nat_cmp next.1.now own.1.now) no_greater
        (not_below _ _ (sorted k some (omega arith) within))
      where
        own : Entry
        own = get_or ranked k some

        next : Entry
        next = get_or ranked (k + 1) some

        is_name : IsName next.1.now
        is_name =
            subst IsName (sym (each_ranked (k + 1) some within).name) (are_names next.2 [] (ranked_in_range (k + 1) some within))

        no_greater : slice_cmp nat_cmp next.1.now own.1.now ≡ Less → (nat_cmp next.0 own.0 ≡ Less) ⊎ (nat_cmp next.0 own.0 ≡ Equal)
        no_greater less =
            let low = first_no_greater next.1.now own.1.now (bytes_of_name next.1.now is_name) less in
            no_greater_cmp next.0 own.0
            (omega (arith, low, (each_ranked (k + 1) some within).first, (each_ranked k some (omega arith)).first))

    whole : (line : ℕ) → line < length names → Contains (lines_in ranked) (record { 0 = line })
    whole line within =
        let entry = get_or named line some in
        let has = Contains-permutation named ranked entry moved (Contains-get_or named line some (omega (arith, as_many))) in (
          has.0,
          omega (arith, has.1, length-map ranked line_of_entry),
          get_or-map line_of_entry ranked has.0 entry (record { 0 = line }) has.1
              ∙ ap line_of_entry has.2 ∙ ap (λ n. record { 0 = n }) (number_at line some within),
        )

    -- the lines stand in the order of their names
    by_name_of : IsByName names (lines_in ranked)
    by_name_of = record {
      sorted =
          λ k d low within.
          (let below : k + 1 < length ranked = omega (arith, length-map ranked line_of_entry) in
          ap₂ (λ a b. is_lt (slice_cmp nat_cmp a b)) (name_of_line (k + 1) d below) (name_of_line k d (omega arith))
          ∙ name_after k below);
      one_each = omega (arith, length-map ranked line_of_entry, length_permutation named ranked moved, as_many);
      in_range =
          All-map (λ (line : LineId). line.0 < length names) line_of_entry ranked ranked_in_range;
      whole = whole;
    }

  -- of no names, too
  pub by_name : (ranked : List Entry) → IsPermutation named ranked → IsSorted entry_cmp ranked → IsByName names (lines_in ranked)
  by_name [] moved sorted = record {
    sorted = λ k d low within. absurd (omega arith);
    one_each = omega (arith, length_permutation named [] moved, as_many);
    in_range = λ k d within. absurd (omega arith);
    whole = λ line within. absurd (omega (arith, length_permutation named [] moved, as_many));
  }
  by_name (first ∷ rest) moved sorted = by_name_of first (first ∷ rest) moved sorted
