-- A name looked up among lines that stand in the order of their names.
use Rattle.std.proofs.Common.{◌≡◌, ⊎_elim, ℕ, ◌<◌, ◌≤◌, true, List, [], length, get_or, Contains, refl, sym, ap, ◌∙◌, true≢false, arith}
use Rattle.std.specs.List.{HoldsAt}
use Rattle.std.specs.List.Sorted.{IsNonDecreasingBy, IsPartitionPoint}
use Rattle.std.specs.Cmp.Lexicographic.{slice_cmp}
use Rattle.std.specs.Ordering.{nat_cmp, ordering_index, is_eq}
use Rattle.std.specs.declared.cmp.Ordering.TheVariants.{Less, Equal, Greater}
use Rattle.std.proofs.lemmas.Bool.{cases_lt}
use Rattle.std.proofs.lemmas.Cmp.{nat_list_cmp_total}
use Rattle.std.proofs.lemmas.List.{get_or_default}
use Rattle.std.proofs.lemmas.List.Sorted.{searchable_from_sorted}
use Rattle.std.proofs.lemmas.Map.Text.{is_eq-slice_cmp}
use Rattle.std.proofs.lemmas.Slice.Eq.{bytes_eq-Decides}
use Rattle.pd_base.specs.declared.ids.LineId.{LineId}
use Rattle.netlist.specs.Names.{compared, IsByName}

-- texts that compare as equal are one
equal_is : (a b : List ℕ) → slice_cmp nat_cmp a b ≡ Equal → a ≡ b
equal_is a b equal = (bytes_eq-Decides a b).0 (sym (is_eq-slice_cmp a b) ∙ ap is_eq equal)

-- a text compares as equal with itself
same_is_equal : (a : List ℕ) → is_eq (slice_cmp nat_cmp a a) ≡ true
same_is_equal a = is_eq-slice_cmp a a ∙ (bytes_eq-Decides a a).1 refl

module _ (names : List (List ℕ)) (name : List ℕ) where
  module _ (lines : List LineId) (by_name : IsByName names lines) where
    -- the answers rise along the lines, as a binary search asks
    pub compared_rise : IsNonDecreasingBy (λ line. ordering_index (compared names name line)) lines
    compared_rise =
        searchable_from_sorted nat_list_cmp_total (λ (line : LineId). get_or names line.0 []) lines name by_name.sorted

    -- a line whose name compares as equal bears the name
    pub bears : (at : ℕ) (d : LineId) → at < length lines → HoldsAt (λ line. compared names name line ≡ Equal) lines at
        → ((get_or lines at d).0 < length names) × (get_or names (get_or lines at d).0 [] ≡ name)
    bears at d within equal =
        (by_name.in_range at d within, equal_is (get_or names (get_or lines at d).0 []) name (equal d))

    -- where each line's name compares as less or as greater, none bears the name
    pub none_bears : (at : ℕ) → IsPartitionPoint (λ line. compared names name line ≡ Less) (λ line. compared names name line ≡ Greater) lines at
        → ¬ Contains names name
    none_bears at parted (k, within, is) = ⊎_elim below from (cases_lt place at)
      where
        line : LineId
        line = record { 0 = k }

        found : Contains lines line
        found = by_name.whole k within

        place : ℕ
        place = found.0

        own_name : get_or names k [] ≡ name
        own_name = get_or_default names k [] name within ∙ is

        equal : is_eq (compared names name (get_or lines place line)) ≡ true
        equal =
            ap (λ (l : LineId). is_eq (slice_cmp nat_cmp (get_or names l.0 []) name)) found.2
            ∙ ap (λ own. is_eq (slice_cmp nat_cmp own name)) own_name ∙ same_is_equal name

        below : place < at → ⊥
        below less = true≢false (sym equal ∙ ap is_eq (parted.0 place line (omega arith) less))

        from : at ≤ place → ⊥
        from past = true≢false (sym equal ∙ ap is_eq (parted.1 place line past found.1))
