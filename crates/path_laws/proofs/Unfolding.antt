-- The walk of an entry, from what stands at its place.
use Rattle.std.proofs.Common.{◌≡◌, ⊎_elim, ℕ, zero, suc, ◌+◌, ◌<◌, List, [], ◌∷◌, length, get_or, refl, sym, ap, ◌∙◌, arith, length-append}
use Rattle.std.specs.List.{fold}
use Rattle.std.proofs.lemmas.Bool.{cases_eq}
use Rattle.std.proofs.lemmas.List.{get_or_append_left}
use Rattle.std.proofs.Math.Seq.{get_or-append_seam}
use Rattle.path_laws.specs.declared.entry.WalkEntry.{WalkEntry}
use Rattle.path_laws.specs.declared.entry.TheConstants.{NONE}
use Rattle.path_laws.specs.Entries.{AreTailsEarlier, entry_at, no_entry, walk_at, walk_of, walks_of, with_walk}
use Rattle.path_laws.proofs.Taking.{walk_goes, walk_stops}

-- more entries change no walk
pub fold_keeps : (walks : List (List ℕ)) (entries : List WalkEntry) (place : ℕ) → place < length walks
    → get_or (fold with_walk walks entries) place [] ≡ get_or walks place []
fold_keeps walks [] place within = refl
fold_keeps walks (entry ∷ entries) place within =
    fold_keeps (with_walk walks entry) entries place (omega (arith, length-append walks (walk_of walks entry ∷ [])))
    ∙ get_or_append_left walks (walk_of walks entry ∷ []) [] place within

-- the walk at a place behind those that are known is that of its entry
fold_at : (walks : List (List ℕ)) (entries : List WalkEntry) (k : ℕ) → k < length entries
    → (((get_or entries k no_entry).arc ≡ NONE → ⊥) → (get_or entries k no_entry).tail < length walks + k)
    → get_or (fold with_walk walks entries) (length walks + k) [] ≡ walk_of (fold with_walk walks entries)
    (get_or entries k no_entry)
fold_at walks [] k within tail = absurd (omega arith)
fold_at walks (entry ∷ entries) zero within tail =
    ap (λ n. get_or all n []) (let e : length walks + 0 ≡ length walks = omega arith in e)
    ∙ fold_keeps (with_walk walks entry) entries (length walks)
    (omega (arith, length-append walks (walk_of walks entry ∷ [])))
    ∙ get_or-append_seam walks (walk_of walks entry) [] []
    ∙ ⊎_elim
    (λ stops. walk_stops walks entry stops ∙ sym (walk_stops all entry stops))
    (λ goes. walk_goes walks entry goes
    ∙ ap (λ w. entry.arc ∷ w) (sym (fold_keeps walks (entry ∷ entries) entry.tail (let t = tail goes in omega arith)))
    ∙ sym (walk_goes all entry goes))
    (cases_eq entry.arc NONE)
  where
    all : List (List ℕ)
    all = fold with_walk (with_walk walks entry) entries
fold_at walks (entry ∷ entries) (suc k) within tail =
    ap (λ n. get_or (fold with_walk (with_walk walks entry) entries) n []) (omega (arith, long))
    ∙ fold_at (with_walk walks entry) entries k (omega arith) (λ goes. let t = tail goes in omega (arith, long))
  where
    long : length (with_walk walks entry) ≡ length walks + 1
    long = omega (arith, length-append walks (walk_of walks entry ∷ []))

module _ (entries : List WalkEntry) (tails : AreTailsEarlier entries) (place : ℕ) (within : place < length entries) where
  unfolds : walk_at entries place ≡ walk_of (walks_of entries) (entry_at entries place)
  unfolds =
      ap (λ n. get_or (walks_of entries) n []) (let e : place ≡ 0 + place = omega arith in e)
      ∙ fold_at [] entries place within (λ goes. let t = tails place within goes in omega arith)

  -- an entry without an arc stops
  pub walk_ends : (entry_at entries place).arc ≡ NONE → walk_at entries place ≡ []
  walk_ends stops = unfolds ∙ walk_stops (walks_of entries) (entry_at entries place) stops

  -- with one it takes the arc and goes on as its tail does
  pub walk_goes_on : ((entry_at entries place).arc ≡ NONE → ⊥)
      → walk_at entries place ≡ (entry_at entries place).arc ∷ walk_at entries (entry_at entries place).tail
  walk_goes_on goes = unfolds ∙ walk_goes (walks_of entries) (entry_at entries place) goes
