-- Least numbers of one kind from those of others.
use Rattle.std.proofs.Common.{◌≡◌, ⊎_elim, ◌⊎◌, ℕ, ◌≤◌, min, Option, Some, None, refl, subst, arith}
use Rattle.std.proofs.lemmas.Bool.{cases_lt}
use Rattle.std.proofs.lemmas.Option.{same_Some}
use Rattle.delay_bounds.specs.Inside.Earliest.{earlier}
use Rattle.delay_bounds.specs.Least.{IsLeast}

-- the least of what holds of the one kind or of the other
pub least_with : (P Q R : ℕ → Type 0) (a b : Option ℕ) → IsLeast P a → IsLeast Q b
    → ((number : ℕ) → R number → P number ⊎ Q number) → ((number : ℕ) → P number → R number) → ((number : ℕ) → Q number → R number)
    → IsLeast R (earlier a b)
least_with P Q R None None no_p no_q split left right = λ other is. ⊎_elim (no_p other) (no_q other) (split other is)
least_with P Q R None (Some q) no_p q_is split left right = record {
  holds = right q q_is.holds;
  lowest = λ other is. ⊎_elim (λ p. absurd (no_p other p)) (λ own. q_is.lowest other own) (split other is);
}
least_with P Q R (Some p) None p_is no_q split left right = record {
  holds = left p p_is.holds;
  lowest = λ other is. ⊎_elim (λ own. p_is.lowest other own) (λ q. absurd (no_q other q)) (split other is);
}
least_with P Q R (Some p) (Some q) p_is q_is split left right = record {
  holds = ⊎_elim
      (λ before. let same : p ≡ min p q = omega arith in subst R same (left p p_is.holds))
      (λ behind. let same : q ≡ min p q = omega arith in subst R same (right q q_is.holds))
      (cases_lt p q);
  lowest = λ other is. ⊎_elim
      (λ own. let low = p_is.lowest other own in omega arith)
      (λ own. let low = q_is.lowest other own in omega arith)
      (split other is);
}

-- what holds of the same numbers has the same least one
pub least_same : (P R : ℕ → Type 0) (a : Option ℕ) → IsLeast P a → ((number : ℕ) → R number → P number)
    → ((number : ℕ) → P number → R number) → IsLeast R a
least_same P R None none back on = λ other is. none other (back other is)
least_same P R (Some p) is back on = record { holds = on p is.holds; lowest = λ other own. is.lowest other (back other own) }

-- a number is the least one that is told by it
pub least_own : (a : Option ℕ) → IsLeast (λ number. a ≡ Some number) a
least_own None = λ other is. cc
least_own (Some p) = record { holds = refl; lowest = λ other is. let same = same_Some p other is in omega arith }

-- the least of one kind is that of another, of which each has a lesser or equal one of the first
pub least_through : (P R : ℕ → Type 0) (a : Option ℕ) → IsLeast P a → ((number : ℕ) → P number → R number)
    → ((number : ℕ) → R number → (lesser : ℕ) × (P lesser × (lesser ≤ number))) → IsLeast R a
least_through P R None none on back = λ other is. let found = back other is in none found.0 found.1.0
least_through P R (Some p) is on back = record {
  holds = on p is.holds;
  lowest = λ other own. let found = back other own in let low = is.lowest found.0 found.1.0 in omega (arith, found.1.1);
}

-- where there is a number of a kind, there is a least one, which is no greater
pub least_below : (P : ℕ → Type 0) (a : Option ℕ) (number : ℕ) → IsLeast P a → P number
    → (lesser : ℕ) × ((a ≡ Some lesser) × (lesser ≤ number))
least_below P None number none is = absurd (none number is)
least_below P (Some p) number least is = (p, (refl, least.lowest number is))

-- the least number is one of its kind
pub least_holds : (P : ℕ → Type 0) (a : Option ℕ) (number : ℕ) → IsLeast P a → a ≡ Some number → P number
least_holds P None number none is = absurd (none_some is)
  where
    none_some : None ≡ Some number → ⊥
    none_some same = cc same
least_holds P (Some p) number least is = subst P (same_Some p number is) least.holds
