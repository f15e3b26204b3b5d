-- Lists whose items stand one after another in one list (compressed sparse rows, as sparse matrices are kept).
use Rattle.std.specs.Prelude.{◌≡◌, ℕ, ◌-◌, ◌≤◌, List, [], ◌∷◌, take, drop, length, slice_index_or}

-- the items from one place up to another one
abbrev pub items_between : {X : Type 0} → List X → ℕ → ℕ → List X
items_between items first next = take (next - first) (drop first items)

-- the lists between these bounds, each from one bound up to the next
abbrev pub lists_within : {X : Type 0} → List X → List ℕ → List (List X)
lists_within items [] = []
lists_within items (first ∷ []) = []
lists_within items (first ∷ next ∷ bounds) = items_between items first next ∷ lists_within items (next ∷ bounds)

-- the numbers never fall, and the last one is this
abbrev pub RiseTo : ℕ → List ℕ → Type 0
RiseTo end [] = ⊥
RiseTo end (last ∷ []) = last ≡ end
RiseTo end (first ∷ next ∷ bounds) = (first ≤ next) × RiseTo end (next ∷ bounds)

-- the bounds of lists that have all of these items: from 0 to their number
pub record AreBounds {X : Type 0} (items : List X) (bounds : List ℕ) : Type 0 where
  pub first : slice_index_or bounds 0 0 ≡ 0
  pub rise : RiseTo (length items) bounds
