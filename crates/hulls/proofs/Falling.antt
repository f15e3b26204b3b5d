-- Fewer states with each note, so the notes have room.
use Rattle.std.proofs.Common.{◌≡◌, ◌≢◌, ℕ, zero, suc, ◌+◌, ◌*◌, ◌<◌, ◌≤◌, ◌^◌, ◌⊎◌, inl, inr, ⊎_elim, bit_and, List, [], ◌∷◌, ◌++◌, length, get_or, refl, sym, ap, ◌∙◌, subst, arith}
use Rattle.std.proofs.Math.ListN.{set}
use Rattle.std.specs.Int.{bit_at}
use Rattle.std.specs.List.{All}
use Rattle.std.proofs.lemmas.Bool.{cases_eq}
use Rattle.std.proofs.lemmas.Nat.{and_le_l}
use Rattle.std.proofs.lemmas.Nat.Bits.{bit_at-lt, bit_at_and, same_from_bits_below}
use Rattle.std.proofs.lemmas.List.Elements.{All-set, All-head, All-tail}
use Rattle.std.proofs.lemmas.List.Sums.{sum_by-le, sum_by-set}
use Rattle.state_sets.specs.declared.state.StateSet.{StateSet}
use Rattle.state_sets.specs.States.{AreWithin, both_sets, no_states}
use Rattle.state_sets.specs.Labellings.{label_at}
use Rattle.undo_trail.specs.declared.trail.Note.{Note}
use Rattle.undo_trail.specs.Undoing.{undone}
use Rattle.hulls.specs.Falling.{states_in, states_left, Falls}
use Rattle.undo_trail.proofs.Undoing.{length-undone, undone-append}

states_at_most : (count n : ℕ) → states_in count n ≤ count
states_at_most zero n = omega arith
states_at_most (suc k) n = let e = states_at_most k n in let f = bit_at-lt n k in omega arith

-- fewer bits, or the same ones
fewer_or_same : (count a b : ℕ) → ((k : ℕ) → bit_at a k ≤ bit_at b k)
    → (states_in count a < states_in count b) ⊎ ((states_in count a ≡ states_in count b) × ((k : ℕ) → k < count → bit_at a k ≡ bit_at b k))
fewer_or_same zero a b below = inr (refl, λ k inside. absurd (let i = inside in omega arith))
fewer_or_same (suc n) a b below =
    let here = below n in
    ⊎_elim
    (λ (less : states_in n a < states_in n b). inl (omega arith))
    (λ (same : (states_in n a ≡ states_in n b) × ((k : ℕ) → k < n → bit_at a k ≡ bit_at b k)).
    let e = same.0 in
    ⊎_elim
    (λ (equal : bit_at a n ≡ bit_at b n). inr (
      omega arith,
      λ k inside. ⊎_elim
          (λ (last : k ≡ n). subst (λ m. bit_at a m ≡ bit_at b m) (sym last) equal)
          (λ (earlier : k ≢ n). same.1 k (let i = inside in omega arith))
          (cases_eq k n),
    ))
    (λ (differ : bit_at a n ≢ bit_at b n). inl (omega arith))
    (cases_eq (bit_at a n) (bit_at b n)))
    (fewer_or_same n a b below)

-- a cut that changes a set takes states
cut_fewer : (count a b : ℕ) → a < 2 ^ count → bit_and a b ≢ a → states_in count (bit_and a b) < states_in count a
cut_fewer count a b within differs = ⊎_elim
    (λ (less : states_in count (bit_and a b) < states_in count a). less)
    (λ (same : (states_in count (bit_and a b) ≡ states_in count a) × ((k : ℕ) → k < count → bit_at (bit_and a b) k ≡ bit_at a k)).
    absurd (differs (same_from_bits_below count (bit_and a b) a (let e = and_le_l a b in omega arith) within same.1)))
    (fewer_or_same count (bit_and a b) a (λ k. let e = bit_at_and a b k in omega arith))

pub left_at_most : (count : ℕ) (labels : List StateSet) → states_left count labels ≤ length labels * count
left_at_most count labels = sum_by-le (λ (s : StateSet). states_in count s.0) count labels (λ k d inside. states_at_most count (get_or labels k d).0)

module _ (count : ℕ) where
  pub left_fewer : (labels : List StateSet) (line : ℕ) (to : StateSet) → line < length labels → (label_at labels line).0 < 2 ^ count
      → bit_and (label_at labels line).0 to.0 ≢ (label_at labels line).0
      → states_left count (set labels line (both_sets (label_at labels line) to)) < states_left count labels
  left_fewer labels line to inside within differs =
      let e = sum_by-set (λ (s : StateSet). states_in count s.0) labels line (both_sets (label_at labels line) to) no_states inside in
      let f = cut_fewer count (label_at labels line).0 to.0 within differs in omega arith

  undone_push : (notes : List (Note StateSet)) (note : Note StateSet) (old new : List StateSet) → set new note.index note.old ≡ old
      → undone (notes ++ note ∷ []) new ≡ undone notes old
  undone_push notes note old new back = undone-append notes (note ∷ []) new ∙ ap (undone notes) back

  -- a note more
  pub falls_more : (notes : List (Note StateSet)) (note : Note StateSet) (old new : List StateSet) → set new note.index note.old ≡ old
      → states_left count new < states_left count old → Falls count notes old → Falls count (notes ++ note ∷ []) new
  falls_more [] note old new back less falls = (subst (λ (l : List StateSet). states_left count new < states_left count l) (sym back) less, tt)
  falls_more (first ∷ notes) note old new back less falls = (
    subst (λ (l : List StateSet). states_left count l < states_left count (set l first.index first.old))
        (sym (undone_push notes note old new back)) falls.0,
    falls_more notes note old new back less falls.1,
  )

  -- with the last notes undone
  pub falls_front : (first second : List (Note StateSet)) (labels : List StateSet) → Falls count (first ++ second) labels
      → Falls count first (undone second labels)
  falls_front [] second labels falls = tt
  falls_front (note ∷ notes) second labels falls = (
    subst (λ (l : List StateSet). states_left count l < states_left count (set l note.index note.old))
        (undone-append notes second labels) falls.0,
    falls_front notes second labels falls.1,
  )

  -- so many notes at most
  pub falls_room : (notes : List (Note StateSet)) (labels : List StateSet) → Falls count notes labels
      → states_left count labels + length notes ≤ states_left count (undone notes labels)
  falls_room [] labels falls = omega arith
  falls_room (note ∷ notes) labels falls = let e = falls_room notes labels falls.1 in let f = falls.0 in omega arith

  pub notes_fit : (notes : List (Note StateSet)) (labels : List StateSet) → Falls count notes labels
      → states_left count labels + length notes ≤ length labels * count
  notes_fit notes labels falls =
      let e = falls_room notes labels falls in let f = left_at_most count (undone notes labels) in
      let g : length (undone notes labels) * count ≡ length labels * count = ap (λ n. n * count) (length-undone notes labels) in omega arith

  pub undone_within : (notes : List (Note StateSet)) (labels : List StateSet) → All (λ note. note.old.0 < 2 ^ count) notes
      → AreWithin count labels → AreWithin count (undone notes labels)
  undone_within [] labels olds within = within
  undone_within (note ∷ notes) labels olds within =
      All-set (λ (s : StateSet). s.0 < 2 ^ count) (undone notes labels) note.index note.old
      (All-head (λ (n : Note StateSet). n.old.0 < 2 ^ count) note notes olds)
      (undone_within notes labels (All-tail (λ (n : Note StateSet). n.old.0 < 2 ^ count) note notes olds) within)
