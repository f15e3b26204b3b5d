-- Lines with a weight, and those that are listed.
use Rattle.std.proofs.Common.{◌≡◌, ◌≢◌, ℕ, ◌+◌, ◌/◌, ◌<◌, ◌≤◌, ◌⊎◌, inl, inr, ⊎_elim, List, [], ◌∷◌, length, set, sym, ap, ◌∙◌, subst, arith}
use Rattle.std.specs.Prelude.{slice_index}
use Rattle.std.proofs.Math.Nat.{div-le_self}
use Rattle.std.proofs.lemmas.Bool.{cases_eq, cases_lt}
use Rattle.std.proofs.lemmas.List.{length-set, get_or_past, get_or-set_same, get_or-set_other}
use Rattle.pd_base.specs.declared.ids.LineId.{LineId}
use Rattle.cones.specs.FoundLines.{FoundSet, FindsMore}
use Rattle.search_hints.specs.Weighed.{RaisesOne, AreDivided, AreListed}

-- where the one line that may get a weight is listed, each line with one still is
pub listed_more : (old new : List ℕ) (line : LineId) (before after : FoundSet) → AreListed old before → RaisesOne line.0 old new
    → FindsMore (line ∷ []) before after → AreListed new after
listed_more old new line before after are raises finds = record {
  room = raises.room ∙ are.room ∙ sym finds.room;
  each = λ other weighs.
      ⊎_elim (λ same. (finds.exactly other).1 (inr (0, omega arith, ap (λ (n : ℕ). record { 0 = n }) (sym same))))
      (λ apart. (finds.exactly other).1 (inl (are.each other (subst (λ (weight : ℕ). 0 < weight) (raises.others other apart) weighs))))
      (cases_eq other line.0);
}

-- the weights below a line are divided by a number, and the others stay
pub record AreDividedBelow (factor end : ℕ) (old new : List ℕ) : Type 0 where
  pub room : length new ≡ length old
  pub below : (line : ℕ) → line < end → slice_index new line ≡ slice_index old line / factor
  pub others : (line : ℕ) → end ≤ line → slice_index new line ≡ slice_index old line

-- one weight more is divided
pub divides_next : (factor end : ℕ) (old new : List ℕ) → end < length new → AreDividedBelow factor end old new
    → AreDividedBelow factor (end + 1) old (set new end (slice_index new end / factor))
divides_next factor end old new inside divided = record {
  room = length-set new end (slice_index new end / factor) ∙ divided.room;
  below = λ line before. ⊎_elim
      (λ (same : line ≡ end). ap (slice_index (set new end (slice_index new end / factor))) same
      ∙ get_or-set_same new end (slice_index new end / factor) 0 inside ∙ ap (λ n. n / factor) (divided.others end (omega arith))
      ∙ ap (λ n. slice_index old n / factor) (sym same))
      (λ (apart : line ≢ end). get_or-set_other new end line (slice_index new end / factor) 0 apart
      ∙ divided.below line (omega (arith, before, apart)))
      (cases_eq line end);
  others = λ line behind. get_or-set_other new end line (slice_index new end / factor) 0 (λ same. omega (arith, same, behind))
      ∙ divided.others line (omega (arith, behind));
}

-- all weights are divided where those below the end are
pub divided_all : (factor end : ℕ) (old new : List ℕ) → length old ≤ end → AreDividedBelow factor end old new → AreDivided factor old new
divided_all factor end old new all divided = record { room = divided.room; each = each }
  where
    each : (line : ℕ) → slice_index new line ≡ slice_index old line / factor
    each line = ⊎_elim
        (λ (before : line < end). divided.below line before)
        (λ (behind : end ≤ line).
        let none : slice_index old line ≡ 0 = get_or_past old line 0 (omega (arith, behind, all)) in
        let quotient : slice_index old line / factor ≤ slice_index old line = div-le_self (slice_index old line) factor in
        divided.others line behind ∙ omega (arith, none, quotient))
        (cases_lt line end)

-- where each weight stays or is divided by a number, each line with one is still listed
pub listed_divided : (factor : ℕ) (old new : List ℕ) (listed : FoundSet) → AreListed old listed
    → (new ≡ old) ⊎ AreDivided factor old new → AreListed new listed
listed_divided factor old new listed are (inl same) = subst (λ weights. AreListed weights listed) (sym same) are
listed_divided factor old new listed are (inr divided) = record {
  room = divided.room ∙ are.room;
  each = λ line weighs.
      let less : slice_index old line / factor ≤ slice_index old line = div-le_self (slice_index old line) factor in
      are.each line (omega (arith, weighs, divided.each line, less));
}
