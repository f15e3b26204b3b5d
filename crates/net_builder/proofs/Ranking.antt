-- Gates sorted by level and number stand in rank order.
use Rattle.std.proofs.Common.{◌≡◌, ◌≢◌, ◌⊎◌, inl, inr, ⊎_elim, Ordering, Less, Equal, Greater, true≢false, ℕ, zero, suc, ◌+◌, ◌-◌, ◌<◌, ◌≤◌, eqb, ltb, cond, false, List, [], ◌∷◌, ◌++◌, length, map, get_or, slice_index, sum_by, All, Contains, refl, sym, ap, subst, ◌∙◌, arith}
use Rattle.std.specs.List.{range_with_len}
use Rattle.std.specs.Cmp.{IsStrictWeakOrder}
use Rattle.std.specs.List.Sorted.{IsPermutation, IsSorted}
use Rattle.std.specs.Ordering.{is_lt, nat_cmp, ordering_then}
use Rattle.std.proofs.lemmas.Bool.{cases_lt, cases_eq, cases_order, cond-true, cond-false, eq-eqb, le-ltb, lt-ltb, ne_eqb}
use Rattle.std.proofs.lemmas.Cmp.{nat_cmp_total, on_total, then_total}
use Rattle.std.proofs.lemmas.List.{get_or-map, length-map}
use Rattle.std.proofs.lemmas.List.FromFn.{get_or-map-range_with_len, length-map-range_with_len, map-range_with_len_more}
use Rattle.std.proofs.lemmas.List.Elements.{All-map, Contains-get_or}
use Rattle.std.proofs.lemmas.List.Sorted.{All-permutation, Contains-permutation, ranks_by, sorted_far, sum_by-IsPermutation}
use Rattle.std.proofs.lemmas.List.Sums.{get_or-le-sum_by, sum_by-cons}
use Rattle.pd_base.specs.declared.ids.GateId.{GateId}
use Rattle.netlist.specs.Circuit.{Circuit, gate_count, gate_line, line_count, source_count}
use Rattle.netlist.specs.Levels.{level, line_levels, IsRankedBefore, IsRankOrder}
use Rattle.netlist.specs.Levels.IsRankedBefore.{lower_level, lesser_number}
use Rattle.net_builder.specs.Ranked.{gates_in, gates_with_levels}

-- how pairs of a level and a number are compared
abbrev pair_cmp : ℕ × ℕ → ℕ × ℕ → Ordering
pair_cmp x y = ordering_then (nat_cmp x.0 y.0) (nat_cmp x.1 y.1)

-- 1 for the pair of the gate, and else 0
abbrev one_of : ℕ → ℕ × ℕ → ℕ
one_of gate pair = cond (eqb pair.1 gate) 1 0

-- two places of a list both count
two_count : {X : Type 0} (f : X → ℕ) (xs : List X) (i j : ℕ) (d : X) → i < j → j < length xs
    → f (get_or xs i d) + f (get_or xs j d) ≤ sum_by f xs
two_count f [] i j d before within = absurd (omega arith)
two_count f (x ∷ xs) zero zero d before within = absurd (omega arith)
two_count f (x ∷ xs) zero (suc j) d before within =
    omega (arith, sum_by-cons f x xs, get_or-le-sum_by f xs j d (omega arith))
two_count f (x ∷ xs) (suc i) zero d before within = absurd (omega arith)
two_count f (x ∷ xs) (suc i) (suc j) d before within =
    omega (arith, sum_by-cons f x xs, two_count f xs i j d (omega arith) (omega arith))

module _ (sources : ℕ) (levels : List ℕ) where
  -- a gate's level and number
  abbrev pub pair_of : ℕ → ℕ × ℕ
  pair_of gate = (slice_index levels (sources + gate), gate)

  -- one more gate
  pub listed_more : (line : ℕ) (xs ys : List (ℕ × ℕ)) → sources ≤ line
      → xs ≡ map pair_of (range_with_len 0 (line - sources)) → ys ≡ xs ++ (slice_index levels line, line - sources) ∷ []
      → ys ≡ map pair_of (range_with_len 0 (line + 1 - sources))
  listed_more line xs ys behind listed pushed =
      let place : sources + (line - sources) ≡ line = omega arith in
      let more : line - sources + 1 ≡ line + 1 - sources = omega arith in
      pushed
      ∙ (λ i. listed i ++ (slice_index levels (sym place i), line - sources) ∷ [])
      ∙ sym (map-range_with_len_more pair_of 0 (line - sources) (line - sources) (omega arith))
      ∙ ap (λ n. map pair_of (range_with_len 0 n)) more

  -- a number below those of the gates stands nowhere
  none_below : (first count gate : ℕ) → gate < first → sum_by (one_of gate) (map pair_of (range_with_len first count)) ≡ 0
  none_below first zero gate below = refl
  none_below first (suc count) gate below =
      let other : one_of gate (pair_of first) ≡ 0 = cond-false (eqb first gate) 1 0 (ne_eqb first gate (λ same. omega arith)) in
      omega (
        arith,
        other,
        sum_by-cons (one_of gate) (pair_of first) (map pair_of (range_with_len (first + 1) count)),
        none_below (first + 1) count gate (omega arith),
      )

  -- each number stands once among those of the gates
  one_each : (first count gate : ℕ) → sum_by (one_of gate) (map pair_of (range_with_len first count)) ≤ 1
  one_each first zero gate = omega arith
  one_each first (suc count) gate =
      ⊎_elim here (elsewhere (one_each (first + 1) count gate)) (cases_eq first gate)
    where
      split : sum_by (one_of gate) (map pair_of (range_with_len first (suc count)))
          ≡ one_of gate (pair_of first) + sum_by (one_of gate) (map pair_of (range_with_len (first + 1) count))
      split = sum_by-cons (one_of gate) (pair_of first) (map pair_of (range_with_len (first + 1) count))

      here : first ≡ gate → sum_by (one_of gate) (map pair_of (range_with_len first (suc count))) ≤ 1
      here same =
          let own : one_of gate (pair_of first) ≡ 1 = cond-true (eqb first gate) 1 0 (eq-eqb first gate same) in
          omega (arith, own, split, none_below (first + 1) count gate (omega arith))

      elsewhere : sum_by (one_of gate) (map pair_of (range_with_len (first + 1) count)) ≤ 1 → (first ≡ gate → ⊥)
          → sum_by (one_of gate) (map pair_of (range_with_len first (suc count))) ≤ 1
      elsewhere rest differs =
          let other : one_of gate (pair_of first) ≡ 0 = cond-false (eqb first gate) 1 0 (ne_eqb first gate differs) in
          omega (arith, other, split, rest)

-- what `cmp` answers at lesser and at equal numbers
pub cmp_less : (a b : ℕ) → a < b → nat_cmp a b ≡ Less
cmp_less a b less = cond-true (ltb a b) Less (cond (eqb a b) Equal Greater) (lt-ltb a b less)

pub cmp_equal : (a b : ℕ) → a ≡ b → nat_cmp a b ≡ Equal
cmp_equal a b same =
    cond-false (ltb a b) Less (cond (eqb a b) Equal Greater) (le-ltb a b (omega arith))
    ∙ cond-true (eqb a b) Equal Greater (eq-eqb a b same)

-- a pair that is not below another is above it, or equal in level and no lesser in number
not_below : (x y : ℕ × ℕ) → is_lt (pair_cmp y x) ≡ false → (x.0 < y.0) ⊎ ((x.0 ≡ y.0) × (x.1 ≤ y.1))
not_below x y above =
    ⊎_elim tied (λ apart. ⊎_elim (λ lower. absurd (never_lower lower)) (λ higher. inl higher) apart) (cases_order y.0 x.0)
  where
    never_lower : y.0 < x.0 → ⊥
    never_lower lower =
        true≢false (sym (ap (λ o. is_lt (ordering_then o (nat_cmp y.1 x.1))) (cmp_less y.0 x.0 lower)) ∙ above)

    tied : y.0 ≡ x.0 → (x.0 < y.0) ⊎ ((x.0 ≡ y.0) × (x.1 ≤ y.1))
    tied same =
        let rest : is_lt (nat_cmp y.1 x.1) ≡ false =
        sym (ap (λ o. is_lt (ordering_then o (nat_cmp y.1 x.1))) (cmp_equal y.0 x.0 same)) ∙ above in
        ⊎_elim (λ lesser. absurd (true≢false (sym (ap is_lt (cmp_less y.1 x.1 lesser)) ∙ rest)))
        (λ more. inr (sym same, more)) (cases_lt y.1 x.1)

module _ (sources : ℕ) (levels : List ℕ) (c : Circuit) (sources_are : source_count c ≡ sources)
    (levels_are : line_levels c ≡ levels) where
  -- there is a level for each line
  level_each : length levels ≡ line_count c
  level_each = ap length (sym levels_are) ∙ length-map-range_with_len (level c) 0 (line_count c)

  -- it is the line's
  level_of : (line : ℕ) → line < line_count c → slice_index levels line ≡ level c line
  level_of line within =
      ap (λ l. get_or l line 0) (sym levels_are)
      ∙ get_or-map-range_with_len (level c) 0 (line_count c) line line 0 within (omega arith)

  -- a pair of a gate of the circuit and its level
  abbrev IsOfGate : ℕ × ℕ → Type 0
  IsOfGate pair = (pair.1 < gate_count c) × (pair.0 ≡ level c (gate_line c pair.1))

  gates_long : length (gates_with_levels sources levels) ≡ gate_count c
  gates_long =
      length-map-range_with_len (λ (g : ℕ). (slice_index levels (sources + g), g)) 0 (length levels - sources)
      ∙ (omega (arith, level_each, sources_are))

  gate_pair : (gate : ℕ) (d : ℕ × ℕ) → gate < gate_count c
      → get_or (gates_with_levels sources levels) gate d ≡ (slice_index levels (sources + gate), gate)
  gate_pair gate d within =
      get_or-map-range_with_len (λ (g : ℕ). (slice_index levels (sources + g), g)) 0 (length levels - sources) gate gate d
      (omega (arith, level_each, sources_are)) (omega arith)

  all_of_gates : All IsOfGate (gates_with_levels sources levels)
  all_of_gates gate d within =
      let here : gate < gate_count c = omega (arith, gates_long) in
      let same : sources + gate ≡ gate_line c gate = omega (arith, sources_are) in
      subst IsOfGate (sym (gate_pair gate d here))
      (here, level_of (sources + gate) (omega (arith, sources_are)) ∙ ap (level c) same)

  module _ (ranked : List (ℕ × ℕ)) (moved : IsPermutation (gates_with_levels sources levels) ranked)
      (sorted : IsSorted pair_cmp ranked) where
    all_ranked : All IsOfGate ranked
    all_ranked = All-permutation IsOfGate (gates_with_levels sources levels) ranked moved all_of_gates

    -- no gate stands twice
    differ : (i j : ℕ) (d : ℕ × ℕ) → i < j → j < length ranked → (get_or ranked i d).1 ≢ (get_or ranked j d).1
    differ i j d before within same =
        let gate = (get_or ranked j d).1 in
        let once = one_each sources levels 0 (length levels - sources) gate in
        let total = sum_by-IsPermutation (one_of gate) (gates_with_levels sources levels) ranked moved in
        let first : one_of gate (get_or ranked i d) ≡ 1 =
        cond-true (eqb (get_or ranked i d).1 gate) 1 0 (eq-eqb (get_or ranked i d).1 gate same) in
        let second : one_of gate (get_or ranked j d) ≡ 1 = cond-true (eqb gate gate) 1 0 (eq-eqb gate gate refl) in
        omega (arith, two_count (one_of gate) ranked i j d before within, once, total, first, second)

    rises : (i j : ℕ) (d : ℕ × ℕ) → i < j → j < length ranked
        → IsRankedBefore c (record { 0 = (get_or ranked i d).1 }) (record { 0 = (get_or ranked j d).1 })
    rises i j d before within =
        let x = get_or ranked i d in
        let y = get_or ranked j d in
        let of_x = all_ranked i d (omega arith) in
        let of_y = all_ranked j d within in
        let far = sorted_far (λ a b. is_lt (pair_cmp a b)) order ranked sorted i j d (omega arith) within in
        ⊎_elim (λ lower. lower_level (omega (arith, of_x.1, of_y.1)))
        (λ tied. lesser_number (sym of_x.1 ∙ tied.0 ∙ of_y.1) (omega (arith, tied.1, differ i j d before within)))
        (not_below x y far)
      where
        order : IsStrictWeakOrder (λ a b. is_lt (pair_cmp a b))
        order =
            ranks_by
            (then_total (on_total (λ (p : ℕ × ℕ). p.0) nat_cmp_total) (on_total (λ (p : ℕ × ℕ). p.1) nat_cmp_total))
            (λ (p : ℕ × ℕ). p)

    -- the gate of a pair
    abbrev gate_of : ℕ × ℕ → GateId
    gate_of pair = record { 0 = pair.1 }

    gate_place : (i : ℕ) (d : GateId) → i < length ranked → get_or (gates_in ranked) i d ≡ gate_of (get_or ranked i (0, 0))
    gate_place i d within = get_or-map gate_of ranked i (0, 0) d within

    -- each gate of the circuit is one of them
    whole : (gate : ℕ) → gate < gate_count c → Contains (gates_in ranked) (record { 0 = gate })
    whole gate within =
        let gates = gates_with_levels sources levels in
        let pair = get_or gates gate (0, 0) in
        let has = Contains-permutation gates ranked pair moved (Contains-get_or gates gate (0, 0) (omega (arith, gates_long))) in (
          has.0,
          omega (arith, has.1, length-map ranked gate_of),
          get_or-map gate_of ranked has.0 pair (record { 0 = gate }) has.1
              ∙ ap gate_of (has.2 ∙ gate_pair gate (0, 0) within),
        )

    -- so the gates stand in rank order
    pub rank_order : IsRankOrder c (gates_in ranked)
    rank_order = record {
      rising =
          λ i j d before within.
          (let low : j < length ranked = omega (arith, length-map ranked gate_of) in
          subst (λ a. IsRankedBefore c a (get_or (gates_in ranked) j d)) (sym (gate_place i d (omega arith)))
          (subst (λ b. IsRankedBefore c (gate_of (get_or ranked i (0, 0))) b) (sym (gate_place j d low))
          (rises i j (0, 0) before low)));
      in_circuit =
          All-map (λ (gate : GateId). gate.0 < gate_count c) gate_of ranked (λ k d within. (all_ranked k d within).0);
      whole = whole;
    }
