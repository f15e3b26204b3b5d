-- The order in which walks are listed, and the first walks from a node (this project's own).
use Rattle.std.specs.Prelude.{◌≡◌, ⊤, ℕ, ◌<◌, List, [], ◌∷◌, length, All, Contains}
use Rattle.path_laws.specs.Graph.{Graph}
use Rattle.path_laws.specs.Walks.{Leads, walk_length}

-- the first arcs that differ decide, and a walk stands before each longer one that begins with it
pub data AreArcsBefore : List ℕ → List ℕ → Type 0 where
  shorter_list : {b : ℕ} {more : List ℕ} → AreArcsBefore [] (b ∷ more)
  lesser_arc : {a b : ℕ} {rest more : List ℕ} → a < b → AreArcsBefore (a ∷ rest) (b ∷ more)
  same_arc : {a b : ℕ} {rest more : List ℕ} → a ≡ b → AreArcsBefore rest more → AreArcsBefore (a ∷ rest) (b ∷ more)

-- the longer walk stands before, then the one of the lesser arcs
pub data IsWalkBefore (g : Graph) (p q : List ℕ) : Type 0 where
  longer : walk_length g q < walk_length g p → IsWalkBefore g p q
  lesser_arcs : walk_length g p ≡ walk_length g q → AreArcsBefore p q → IsWalkBefore g p q

-- each walk stands before the next
abbrev pub AreWalksRising : Graph → List (List ℕ) → Type 0
AreWalksRising g [] = ⊤
AreWalksRising g (p ∷ []) = ⊤
AreWalksRising g (p ∷ q ∷ walks) = IsWalkBefore g p q × AreWalksRising g (q ∷ walks)

-- there are so many walks, or all from the node where it has fewer
pub data AreEnoughWalks (g : Graph) (node count : ℕ) (walks : List (List ℕ)) : Type 0 where
  so_many : length walks ≡ count → AreEnoughWalks g node count walks
  all_walks : length walks < count → ((other : List ℕ) → Leads g node other → Contains walks other) → AreEnoughWalks g node count walks

-- the list has the first count walks from the node in this order, or all of them where there are fewer
pub record AreFirstWalks (g : Graph) (node count : ℕ) (walks : List (List ℕ)) : Type 0 where
  pub are_walks : All (Leads g node) walks
  pub rising : AreWalksRising g walks
  pub none_before : (other : List ℕ) → Leads g node other → ¬ Contains walks other
      → All (λ p. ¬ IsWalkBefore g other p) walks
  pub full : AreEnoughWalks g node count walks
