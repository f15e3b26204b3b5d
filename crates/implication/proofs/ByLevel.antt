-- Whether lines stand by level, seen by one pass over them; and lines that were listed with their levels and sorted so stand by level.
use Rattle.std.proofs.Common.{◌≡◌, ◌⊎◌, inl, inr, ⊎_elim, Ordering, Less, Equal, Greater, true≢false, ℕ, ◌+◌, ◌<◌, ◌≤◌, eqb, ltb, cond, false, List, [], ◌∷◌, ◌++◌, length, map, take, get_or, refl, sym, ap, subst, ◌∙◌, arith}
use Rattle.std.specs.Cmp.{IsStrictWeakOrder}
use Rattle.std.specs.List.{All}
use Rattle.std.specs.List.Sorted.{IsPermutation, IsSorted}
use Rattle.std.specs.Ordering.{is_lt, nat_cmp, ordering_then}
use Rattle.std.proofs.lemmas.Bool.{cases_lt, cond-true, lt-ltb}
use Rattle.std.proofs.lemmas.Cmp.{nat_cmp_total, on_total, then_total}
use Rattle.std.proofs.lemmas.List.{get_or_default, get_or-map, length-map, map-append, take_more}
use Rattle.std.proofs.lemmas.List.Elements.{All-map}
use Rattle.std.proofs.lemmas.List.Sorted.{All-permutation, Contains-permutation, IsPermutation-map, IsPermutation-sym, ranks_by, sorted_far}
use Rattle.pd_base.specs.declared.ids.LineId.{LineId}
use Rattle.netlist.specs.Circuit.{Circuit}
use Rattle.netlist.specs.Levels.{level}
use Rattle.implication.specs.ByLevel.{lines_by_level, IsByLevel, AreSameByLevel}

-- a line with its level
abbrev Entry : Type 0
Entry = ℕ × LineId

-- how they are compared
abbrev pub entry_cmp : Entry → Entry → Ordering
entry_cmp x y = ordering_then (nat_cmp x.0 y.0) (nat_cmp x.1.0 y.1.0)

-- what does not stand below another one is on no lower level
no_lower : (x y : Entry) → is_lt (entry_cmp y x) ≡ false → x.0 ≤ y.0
no_lower x y above = ⊎_elim
    (λ (lower : y.0 < x.0).
    let less : nat_cmp y.0 x.0 ≡ Less = cond-true (ltb y.0 x.0) Less (cond (eqb y.0 x.0) Equal Greater) (lt-ltb y.0 x.0 lower) in
    absurd (true≢false (sym (ap (λ o. is_lt (ordering_then o (nat_cmp y.1.0 x.1.0))) less) ∙ above)))
    (λ (rises : x.0 ≤ y.0). rises)
    (cases_lt y.0 x.0)

order : IsStrictWeakOrder (λ a b. is_lt (entry_cmp a b))
order =
    ranks_by
    (then_total (on_total (λ (entry : Entry). entry.0) nat_cmp_total) (on_total (λ (entry : Entry). entry.1.0) nat_cmp_total))
    (λ (entry : Entry). entry)

-- The first so many lines stand by level, and none of them is above this level; where it is not 0, one of them has it.
pub record AreRising (c : Circuit) (lines : List LineId) (count highest : ℕ) : Type 0 where
  pub rises : (place later : ℕ) (d : LineId) → place ≤ later → later < count
      → level c (get_or lines place d).0 ≤ level c (get_or lines later d).0
  pub low : (place : ℕ) (d : LineId) → place < count → level c (get_or lines place d).0 ≤ highest
  pub one : (highest ≡ 0) ⊎ ((place : ℕ) × (place < count) × (highest ≡ level c (get_or lines place (record { 0 = 0 })).0))

module _ (c : Circuit) (lines : List LineId) where
  -- before the first line
  pub rising_none : AreRising c lines 0 0
  rising_none = record {
    rises = λ place later d before within. absurd (omega (arith, within));
    low = λ place d within. absurd (omega (arith, within));
    one = inl refl;
  }

  module _ (count highest : ℕ) (are : AreRising c lines count highest) where
    module _ (in_lines : count < length lines) (line : LineId) (at_line : get_or lines count (record { 0 = 0 }) ≡ line) where
      level_here : (d : LineId) → level c (get_or lines count d).0 ≡ level c line.0
      level_here d = ap (λ (l : LineId). level c l.0) (get_or_default lines count d (record { 0 = 0 }) in_lines ∙ at_line)

      -- one line more, which is on no lower level
      module _ (above : highest ≤ level c line.0) where
        low_more : (place : ℕ) (d : LineId) → place < count + 1 → level c (get_or lines place d).0 ≤ level c line.0
        low_more place d within = ⊎_elim
            (λ (front : place < count). omega (arith, are.low place d front, above))
            (λ (behind : count ≤ place).
            let here : place ≡ count = omega (arith, within, behind) in
            omega (arith, ap (λ (n : ℕ). level c (get_or lines n d).0) here, level_here d))
            (cases_lt place count)

        rises_more : (place later : ℕ) (d : LineId) → place ≤ later → later < count + 1
            → level c (get_or lines place d).0 ≤ level c (get_or lines later d).0
        rises_more place later d before within = ⊎_elim
            (λ (front : later < count). are.rises place later d before front)
            (λ (behind : count ≤ later).
            let here : later ≡ count = omega (arith, within, behind) in
            omega (
              arith,
              low_more place d (omega (arith, before, within)),
              ap (λ (n : ℕ). level c (get_or lines n d).0) here,
              level_here d,
            ))
            (cases_lt later count)

        pub rising_more : AreRising c lines (count + 1) (level c line.0)
        rising_more = record {
          rises = rises_more;
          low = low_more;
          one = inr (count, omega arith, sym (level_here (record { 0 = 0 })));
        }

      -- where the next line is on a lower level, they do not stand by level
      pub falls_here : level c line.0 < highest → IsByLevel c lines → ⊥
      falls_here below by_level = ⊎_elim
          (λ (lowest : highest ≡ 0). omega (arith, below, lowest))
          (λ (at : (place : ℕ) × (place < count) × (highest ≡ level c (get_or lines place (record { 0 = 0 })).0)).
          let rise = by_level at.0 count (record { 0 = 0 }) (omega (arith, at.1)) in_lines in
          omega (arith, below, at.2, rise, level_here (record { 0 = 0 })))
          are.one

    -- after the last line
    pub rising_all : length lines ≤ count → IsByLevel c lines
    rising_all last place later d before within = are.rises place later d before (omega (arith, last, within))

module _ (c : Circuit) where
  abbrev pub entry_of : LineId → Entry
  entry_of line = (level c line.0, line)

  -- one line more is listed
  pub listed_more : (lines : List LineId) (index : ℕ) (none : LineId) → index < length lines → (old new : List Entry)
      → old ≡ map entry_of (take index lines) → new ≡ old ++ entry_of (get_or lines index none) ∷ []
      → new ≡ map entry_of (take (index + 1) lines)
  listed_more lines index none in_lines old new listed pushed =
      pushed ∙ ap (λ (entries : List Entry). entries ++ entry_of (get_or lines index none) ∷ []) listed
      ∙ sym (map-append entry_of (take index lines) (get_or lines index none ∷ []))
      ∙ sym (ap (map entry_of) (take_more lines index none in_lines))

  lines_back : (lines : List LineId) → lines_by_level (map entry_of lines) ≡ lines
  lines_back [] = refl
  lines_back (line ∷ lines) = ap (λ (ls : List LineId). line ∷ ls) (lines_back lines)

  module _ (lines : List LineId) (entries sorted : List Entry) (are : entries ≡ map entry_of lines)
      (moved : IsPermutation entries sorted) (is_sorted : IsSorted entry_cmp sorted) where
    abbrev IsLevelled : Entry → Type 0
    IsLevelled entry = entry.0 ≡ level c entry.1.0

    levelled : All IsLevelled sorted
    levelled =
        All-permutation IsLevelled entries sorted moved
        (subst (All IsLevelled) (sym are) (All-map IsLevelled entry_of lines (λ k d within. refl)))

    moved_lines : IsPermutation lines (lines_by_level sorted)
    moved_lines =
        subst (λ (ls : List LineId). IsPermutation ls (lines_by_level sorted)) (ap lines_by_level are ∙ lines_back lines)
        (IsPermutation-map (λ (entry : Entry). entry.1) entries sorted moved)

    line_at : (place : ℕ) (d : LineId) → place < length sorted
        → get_or (lines_by_level sorted) place d ≡ (get_or sorted place (0, record { 0 = 0 })).1
    line_at place d within = get_or-map (λ (entry : Entry). entry.1) sorted place (0, record { 0 = 0 }) d within

    rises : (place later : ℕ) (d : LineId) → place ≤ later → later < length (lines_by_level sorted)
        → level c (get_or (lines_by_level sorted) place d).0 ≤ level c (get_or (lines_by_level sorted) later d).0
    rises place later d before within =
        let inside : later < length sorted = omega (arith, length-map sorted (λ (entry : Entry). entry.1)) in
        let none : Entry = (0, record { 0 = 0 }) in
        let x = get_or sorted place none in let y = get_or sorted later none in
        let far = sorted_far (λ a b. is_lt (entry_cmp a b)) order sorted is_sorted place later none before inside in
        omega (
          arith,
          no_lower x y far,
          levelled place none (omega arith),
          levelled later none inside,
          ap (λ (line : LineId). level c line.0) (line_at place d (omega arith)),
          ap (λ (line : LineId). level c line.0) (line_at later d inside),
        )

    -- sorted, they stand by level
    pub ranked_by_level : AreSameByLevel c lines sorted
    ranked_by_level = record {
      same = λ line. (
        Contains-permutation lines (lines_by_level sorted) line moved_lines,
        Contains-permutation (lines_by_level sorted) lines line (IsPermutation-sym lines (lines_by_level sorted) moved_lines),
      );
      by_level = rises;
    }
