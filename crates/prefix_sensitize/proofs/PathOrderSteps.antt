-- Lists in lexicographic order: those that begin alike stand side by side, and none stands behind one that goes on from it. So it is with
-- the steps of paths.
use Rattle.std.proofs.Common.{◌≡◌, Ordering, Less, Equal, Greater, false, true≢false, ℕ, List, [], ◌∷◌, ◌++◌, refl, sym, ap, ap₂, ◌∙◌}
use Rattle.std.specs.Cmp.{IsTotalOrder}
use Rattle.std.specs.Cmp.Lexicographic.{slice_cmp}
use Rattle.std.specs.Ordering.{is_gt, nat_cmp, ordering_then, ordering_reverse}
use Rattle.std.proofs.lemmas.Cmp.{tied_itself, tied_back, nat_cmp_total, on_total, then_total, ranked}
use Rattle.pd_base.specs.declared.ids.PinRef.{PinRef}

module _ {K : Type 0} (R : K → K → Ordering) (total : IsTotalOrder R) (same : (x y : K) → R x y ≡ Equal → x ≡ y) where
  -- a list that goes on from another one is greater
  pub longer_greater : (xs : List K) (y : K) (ys : List K) → slice_cmp R (xs ++ y ∷ ys) xs ≡ Greater
  longer_greater [] y ys = refl
  longer_greater (x ∷ xs) y ys =
      ap (λ o. ordering_then o (slice_cmp R (xs ++ y ∷ ys) xs)) (tied_itself total x) ∙ longer_greater xs y ys

  -- between two lists with one first element each has it, and its rest stands between theirs
  first_alike : (x y : K) (front rest middle last : List K) → is_gt (ordering_then (R x y) (slice_cmp R (front ++ rest) middle)) ≡ false
      → is_gt (ordering_then (R y x) (slice_cmp R middle (front ++ last))) ≡ false → (o : Ordering) → R x y ≡ o
      → (is_gt (slice_cmp R (front ++ rest) middle) ≡ false → is_gt (slice_cmp R middle (front ++ last)) ≡ false
      → (more : List K) × (front ++ more ≡ middle)) → (more : List K) × (x ∷ front ++ more ≡ y ∷ middle)
  first_alike x y front rest middle last low high Less less further =
      absurd (true≢false
      (sym (ap (λ o. is_gt (ordering_then o (slice_cmp R middle (front ++ last)))) (total.antisymm y x ∙ ap ordering_reverse less)) ∙ high))
  first_alike x y front rest middle last low high Equal equal further =
      let found =
      further (sym (ap (λ o. is_gt (ordering_then o (slice_cmp R (front ++ rest) middle))) equal) ∙ low)
      (sym (ap (λ o. is_gt (ordering_then o (slice_cmp R middle (front ++ last)))) (tied_back total x y equal)) ∙ high) in
      (found.0, ap₂ (λ z zs. z ∷ zs) (same x y equal) found.1)
  first_alike x y front rest middle last low high Greater greater further =
      absurd (true≢false (sym (ap (λ o. is_gt (ordering_then o (slice_cmp R (front ++ rest) middle))) greater) ∙ low))

  -- between two lists that begin alike each begins so
  pub between : (front rest middle last : List K) → is_gt (slice_cmp R (front ++ rest) middle) ≡ false
      → is_gt (slice_cmp R middle (front ++ last)) ≡ false → (more : List K) × (front ++ more ≡ middle)
  between [] rest middle last low high = (middle, refl)
  between (x ∷ front) rest [] last low high = absurd (true≢false low)
  between (x ∷ front) rest (y ∷ middle) last low high =
      first_alike x y front rest middle last low high (R x y) refl (λ low_rest high_rest. between front rest middle last low_rest high_rest)

-- what two orders together call equal each of them does
then_equal : (first second : Ordering) → ordering_then first second ≡ Equal → (first ≡ Equal) × (second ≡ Equal)
then_equal Less second equal = let no : ⊥ = cc in absurd no
then_equal Equal second equal = (refl, equal)
then_equal Greater second equal = let no : ⊥ = cc in absurd no

-- numbers that are equal in their order are one
same_number : (a b : ℕ) → nat_cmp a b ≡ Equal → a ≡ b
same_number a b equal = ranked a b Equal (sym equal)

-- how pins are compared: by their gates, then by their numbers there
abbrev pub pin_cmp : PinRef → PinRef → Ordering
pin_cmp a b = ordering_then (nat_cmp a.gate.0 b.gate.0) (nat_cmp a.pin b.pin)

pub pins_total : IsTotalOrder pin_cmp
pins_total = then_total (on_total (λ (pin : PinRef). pin.gate.0) nat_cmp_total) (on_total (λ (pin : PinRef). pin.pin) nat_cmp_total)

-- pins that are equal in their order are one
pub same_pin : (a b : PinRef) → pin_cmp a b ≡ Equal → a ≡ b
same_pin a b equal =
    let both = then_equal (nat_cmp a.gate.0 b.gate.0) (nat_cmp a.pin b.pin) equal in
    let gate = same_number a.gate.0 b.gate.0 both.0 in
    let pin = same_number a.pin b.pin both.1 in
    λ i. record { gate = record { 0 = gate i }; pin = pin i }
