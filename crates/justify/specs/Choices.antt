-- Which splits of the cases may be chosen, in words that are spoken inside this crate alone (this project's own).
use Rattle.std.specs.Prelude.{◌≡◌, ℕ, Bool, List, All}
use Rattle.pd_base.specs.Target.{Target}
use Rattle.pd_base.specs.declared.ids.LineId.{LineId}
use Rattle.state_sets.specs.declared.state.StateSet.{StateSet}
use Rattle.state_sets.specs.StateAlgebra.{StateAlgebra}
use Rattle.state_sets.specs.Labellings.{label_at}
use Rattle.state_laws.specs.declared.split.Split.{Split}
use Rattle.trees.specs.Spent.{HasInHalf}
use Rattle.trees.specs.Trees.{IsSourceKind}
use Rattle.implication.specs.Standing.{Standing, IsTold, IsLabels}
use Rattle.justify.specs.Scoping.{IsToldInSupport}
use Rattle.justify.specs.Trying.{IsSingle}

-- the source's label as the scope stands has at most one state
abbrev pub IsSingleAt : StateAlgebra → Standing → ℕ → Type 0
IsSingleAt a standing source = (labels : List StateSet) → IsLabels a standing labels → IsSingle a.count (label_at labels source)

-- so has that of each source in the support of the path that is told
abbrev pub AreSingle : StateAlgebra → Target → Standing → Type 0
AreSingle a target standing = (source : ℕ) → IsToldInSupport target standing source → IsSingleAt a standing source

-- so has that of each of these sources that is told
abbrev pub AreSingleAmong : StateAlgebra → Standing → List LineId → Type 0
AreSingleAmong a standing sources = All (λ source. IsTold standing source.0 → IsSingleAt a standing source.0) sources

-- the split is at this source, by its last value or its steadiness, and the source's label has a state in each half
pub record SplitsAt (a : StateAlgebra) (standing : Standing) (source : LineId) (split : Split) : Type 0 where
  pub at_source : split.line ≡ source
  pub kind : IsSourceKind split.kind
  pub in_half : (labels : List StateSet) → IsLabels a standing labels → (second : Bool)
      → HasInHalf a (label_at labels source.0) split.kind second

-- the split is at a source of the support that is told, whose label has a state in each half
pub record IsUsefulSplit (a : StateAlgebra) (target : Target) (standing : Standing) (split : Split) : Type 0 where
  pub source : IsToldInSupport target standing split.line.0
  pub splits : SplitsAt a standing split.line split
