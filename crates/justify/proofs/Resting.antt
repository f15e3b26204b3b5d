-- What a scope answers for a source is its set in the hull; and how conflicts are counted.
use Rattle.std.proofs.Common.{◌≡◌, ℕ, ◌+◌, ◌-◌, ◌<◌, ◌≤◌, ◌^◌, ⊎_elim, List, Some, IsSome, ◌∙◌, ap, arith}
use Rattle.std.specs.Prelude.{is_some}
use Rattle.std.proofs.lemmas.Bool.{cases_lt}
use Rattle.state_sets.specs.declared.state.StateSet.{StateSet}
use Rattle.state_sets.specs.StateAlgebra.{StateAlgebra}
use Rattle.state_sets.specs.Labellings.{label_at}
use Rattle.implication.specs.declared.assumption.Beginning.{Beginning}
use Rattle.implication.specs.Moves.{risen}
use Rattle.implication.specs.Standing.{Standing, IsLabels, IsTold, TellsLabel}
use Rattle.implication.proofs.ScopeLabels.{labels_once}

-- what a scope answers for a source that is told is its set in the hull
module _ (a : StateAlgebra) (standing : Standing) (begun : Beginning) (is : standing.beginning ≡ Some begun) (source : ℕ) (answer : StateSet)
    (told : IsTold standing source)
    (tells : (labels : List StateSet) × IsLabels a standing labels × TellsLabel a.count standing labels source answer) where
  here : answer ≡ label_at tells.0 source
  here = tells.2.told told

  has_begun : IsSome standing.beginning
  has_begun = ap is_some is

  pub label_is : (labels : List StateSet) → IsLabels a standing labels → answer ≡ label_at labels source
  label_is labels labelled =
      here ∙ ap (λ (ls : List StateSet). label_at ls source) (labels_once a standing tells.0 labels has_begun tells.1 labelled)

-- what is counted where a conflict came later
pub counted_later : (first middle last : ℕ) → first ≤ middle → last ≡ risen middle → risen first ≤ last
counted_later first middle last later counted = ⊎_elim
    (λ (less : middle + 1 < 2 ^ 64 - 1). omega (arith, counted)) (λ (more : 2 ^ 64 - 1 ≤ middle + 1). omega (arith, counted))
    (cases_lt (middle + 1) (2 ^ 64 - 1))

pub counted_before : (first middle last : ℕ) → first ≤ middle → risen middle ≤ last → risen first ≤ last
counted_before first middle last later counted = ⊎_elim
    (λ (less : middle + 1 < 2 ^ 64 - 1). omega (arith, counted)) (λ (more : 2 ^ 64 - 1 ≤ middle + 1). omega (arith, counted))
    (cases_lt (middle + 1) (2 ^ 64 - 1))
