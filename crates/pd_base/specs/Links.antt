-- The links under the rules of a search (this project's own).
use Rattle.std.specs.Prelude.{ℕ, List, [], Contains}
use Rattle.pd_base.specs.declared.ids.LineId.{LineId}
use Rattle.pd_base.specs.declared.rules.Rules.{Rules}
use Rattle.pd_base.specs.declared.rules.Rules.TheVariants.{One, Two, Linked}

-- pairs of a source and the line to which it is linked
abbrev pub LinkList : Type 0
LinkList = List (LineId × LineId)

-- the links that stand under these rules
abbrev pub links_of : Rules → LinkList
links_of One = []
links_of Two = []
links_of (Linked links) = links.pairs

-- the source is linked to the line
abbrev pub IsLink : LinkList → ℕ → ℕ → Type 0
IsLink links source line = Contains links (record { 0 = source }, record { 0 = line })
