-- Frames of several ends, one of which is exchanged for another one.
use Rattle.std.proofs.Common.{◌≡◌, ◌<◌, ℕ, List, [], ◌∷◌, ◌++◌, length, get_or, set, sym, ◌∙◌}
use Rattle.std.proofs.lemmas.List.Elements.{All-push, All-set}
use Rattle.pd_base.specs.Links.{LinkList}
use Rattle.search_hints.specs.Drafts.{AreFramesAlike}

-- the frames at hand stand where others stood that are at hand now
pub alike_exchanged : (lines : ℕ) (others : List ℕ) (links : LinkList) → AreFramesAlike lines others links → (place : ℕ) (d : ℕ)
    → place < length others → AreFramesAlike (get_or others place d) (set others place lines) links
alike_exchanged lines others links are place d inside =
    let same : get_or others place d ≡ lines = are.each place d inside in
    record {
      each = All-set (λ (other : ℕ). other ≡ get_or others place d) others place lines (sym same)
          (λ k e within. are.each k e within ∙ sym same);
      unlinked = are.unlinked;
    }

-- others are added that are of as many lines
pub alike_added : (lines : ℕ) (others : List ℕ) (links : LinkList) → AreFramesAlike lines others links → (fresh : ℕ) → fresh ≡ lines
    → AreFramesAlike lines (others ++ fresh ∷ []) links
alike_added lines others links are fresh same = record {
  each = All-push (λ (other : ℕ). other ≡ lines) others fresh are.each same;
  unlinked = are.unlinked;
}
