-- Links in chains by their lines (this project's own).
use Rattle.std.specs.Prelude.{◌≡◌, ℕ, ◌+◌, ◌<◌, ◌≤◌, Bool, true, false, List, [], ◌∷◌, length, slice_index_or}
use Rattle.pd_base.specs.Links.{LinkList}
use Rattle.pd_base.specs.declared.ids.LineId.{LineId}

-- the link of this number, and its two lines
abbrev pub link_at : LinkList → ℕ → LineId × LineId
link_at links link = slice_index_or links link (record { 0 = 0 }, record { 0 = 0 })

abbrev pub link_lines : LinkList → ℕ → List LineId
link_lines links link = (link_at links link).0 ∷ (link_at links link).1 ∷ []

-- its second line, or its first
abbrev pub chained_line : Bool → LineId × LineId → LineId
chained_line true link = link.1
chained_line false link = link.0

-- The link stands in the chain that begins at a link, of whose number this is one more: it is that link, or stands in the chain from the
-- one before it on.
pub data IsInChain (nexts : List ℕ) (link : ℕ) : ℕ → Type 0 where
  here : {at : ℕ} → at ≡ link + 1 → IsInChain nexts link at
  later : {at : ℕ} → (other : ℕ) → at ≡ other + 1 → IsInChain nexts link (slice_index_or nexts other 0) → IsInChain nexts link at

-- each of the first links stands in the chain of its line, and each leads to one before it
pub record IsChained (second : Bool) (links : LinkList) (bound : ℕ) (heads nexts : List ℕ) : Type 0 where
  pub one_each : length nexts ≡ bound
  pub falls : (link : ℕ) → link < bound → slice_index_or nexts link 0 ≤ link
  pub heads_low : (line : ℕ) → slice_index_or heads line 0 ≤ bound
  pub on : (link : ℕ) → link < bound → IsInChain nexts link (slice_index_or heads (chained_line second (link_at links link)).0 0)

-- all links stand in the chains of both of their lines
pub record AreChained (links : LinkList) (source_heads source_nexts line_heads line_nexts : List ℕ) : Type 0 where
  pub by_source : IsChained false links (length links) source_heads source_nexts
  pub by_line : IsChained true links (length links) line_heads line_nexts
