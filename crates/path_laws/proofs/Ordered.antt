-- The order of walks is a strict total order, and an arc before both walks keeps it.
use Rattle.std.proofs.Common.{◌≡◌, ◌⊎◌, inl, inr, ⊎_elim, ℕ, ◌+◌, List, [], ◌∷◌, refl, sym, ap, ◌∙◌, arith}
use Rattle.std.proofs.lemmas.Bool.{cases_order}
use Rattle.path_laws.specs.Graph.{Graph, delay_of}
use Rattle.path_laws.specs.Walks.{walk_length}
use Rattle.path_laws.specs.Order.{AreArcsBefore, IsWalkBefore}
use Rattle.path_laws.specs.Order.AreArcsBefore.{shorter_list, lesser_arc, same_arc}
use Rattle.path_laws.specs.Order.IsWalkBefore.{longer, lesser_arcs}

arcs_irreflexive : {p : List ℕ} → AreArcsBefore p p → ⊥
arcs_irreflexive (lesser_arc less) = omega arith
arcs_irreflexive (same_arc same rest) = arcs_irreflexive rest

arcs_transitive : {p q r : List ℕ} → AreArcsBefore p q → AreArcsBefore q r → AreArcsBefore p r
arcs_transitive shorter_list (lesser_arc less) = shorter_list
arcs_transitive shorter_list (same_arc same rest) = shorter_list
arcs_transitive (lesser_arc less) (lesser_arc further) = lesser_arc (omega arith)
arcs_transitive (lesser_arc less) (same_arc same rest) = lesser_arc (omega arith)
arcs_transitive (same_arc same rest) (lesser_arc less) = lesser_arc (omega arith)
arcs_transitive (same_arc same rest) (same_arc also more) = same_arc (same ∙ also) (arcs_transitive rest more)

arcs_compare : (p q : List ℕ) → AreArcsBefore p q ⊎ ((p ≡ q) ⊎ AreArcsBefore q p)
arcs_compare [] [] = inr (inl refl)
arcs_compare [] (b ∷ q) = inl shorter_list
arcs_compare (a ∷ p) [] = inr (inr shorter_list)
arcs_compare (a ∷ p) (b ∷ q) =
    ⊎_elim
    (λ same. ⊎_elim (λ less. inl (same_arc same less))
    (λ rest. ⊎_elim (λ equal. inr (inl cc)) (λ more. inr (inr (same_arc (sym same) more))) rest)
    (arcs_compare p q))
    (λ apart. ⊎_elim (λ less. inl (lesser_arc less)) (λ more. inr (inr (lesser_arc more))) apart)
    (cases_order a b)

module _ (g : Graph) where
  pub irreflexive : (p : List ℕ) → IsWalkBefore g p p → ⊥
  irreflexive p (longer less) = omega arith
  irreflexive p (lesser_arcs even less) = arcs_irreflexive less

  pub transitive : (p q r : List ℕ) → IsWalkBefore g p q → IsWalkBefore g q r → IsWalkBefore g p r
  transitive p q r (longer less) (longer further) = longer (omega arith)
  transitive p q r (longer less) (lesser_arcs even further) = longer (omega arith)
  transitive p q r (lesser_arcs even less) (longer further) = longer (omega arith)
  transitive p q r (lesser_arcs even less) (lesser_arcs also further) =
      lesser_arcs (even ∙ also) (arcs_transitive less further)

  pub asymmetric : (p q : List ℕ) → IsWalkBefore g p q → IsWalkBefore g q p → ⊥
  asymmetric p q before after = irreflexive p (transitive p q p before after)

  pub compared : (p q : List ℕ) → IsWalkBefore g p q ⊎ ((p ≡ q) ⊎ IsWalkBefore g q p)
  compared p q =
      ⊎_elim
      (λ even. ⊎_elim (λ less. inl (lesser_arcs even less))
      (λ rest. ⊎_elim (λ same. inr (inl same)) (λ more. inr (inr (lesser_arcs (sym even) more))) rest)
      (arcs_compare p q))
      (λ apart. ⊎_elim (λ less. inr (inr (longer less))) (λ more. inl (longer more)) apart)
      (cases_order (walk_length g p) (walk_length g q))

  pub after_arc : (arc : ℕ) (p q : List ℕ) → IsWalkBefore g p q → IsWalkBefore g (arc ∷ p) (arc ∷ q)
  after_arc arc p q (longer less) = longer (omega arith)
  after_arc arc p q (lesser_arcs even less) = lesser_arcs (ap (λ n. delay_of g arc + n) even) (same_arc refl less)
