-- A draft's changes stay on lines that have labels, of which there stay as many.
use Rattle.std.proofs.Common.{◌≡◌, ℕ, ◌<◌, List, [], ◌∷◌, ◌++◌, length, set, Some, sym, ap, subst, subst₂}
use Rattle.std.specs.List.{All}
use Rattle.std.proofs.lemmas.List.{length-set}
use Rattle.std.proofs.lemmas.List.Elements.{All-pop, All-push}
use Rattle.state_sets.specs.declared.state.StateSet.{StateSet}
use Rattle.search_hints.specs.Drafts.{Sizes}
use Rattle.search_hints.specs.declared.changes.Change.{Change}

-- all of these changes are on lines below this number
abbrev pub AreOn : ℕ → List Change → Type 0
AreOn lines changes = All (λ change. change.line.0 < lines) changes

-- how many labels there are, and how many gates
abbrev pub sizes_of : List StateSet → ℕ → Sizes
sizes_of labels gates = record { lines = length labels; gates = gates }

-- where one label is written, there are as many
pub as_many : (labels : List StateSet) (gates line : ℕ) (left : StateSet) → sizes_of (set labels line left) gates ≡ sizes_of labels gates
as_many labels gates line left =
    ap (λ (n : ℕ). let sizes : Sizes = record { lines = n; gates = gates } in sizes) (length-set labels line left)

module _ (labels : List StateSet) (less more : List Change) (change : Change) (left : StateSet) (last : more ≡ less ++ change ∷ []) where
  -- the last change is on a line that has a label
  pub last_within : AreOn (length labels) more → change.line.0 < length labels
  last_within are = (All-pop (λ (c : Change). c.line.0 < length labels) more less (Some change) last are).1

  -- where it is taken back, those before it are on lines that have labels
  pub one_less : AreOn (length labels) more → AreOn (length (set labels change.line.0 left)) less
  one_less are =
      subst (λ (n : ℕ). AreOn n less) (sym (length-set labels change.line.0 left))
      (All-pop (λ (c : Change). c.line.0 < length labels) more less (Some change) last are).0

  -- where it is noted behind them, all are
  pub one_more : AreOn (length labels) less → change.line.0 < length labels → AreOn (length (set labels change.line.0 left)) more
  one_more are within =
      subst₂ AreOn (sym (length-set labels change.line.0 left)) (sym last)
      (All-push (λ (c : Change). c.line.0 < length labels) less change are within)
