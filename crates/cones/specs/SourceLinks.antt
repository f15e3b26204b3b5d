-- The line to which each source is linked, by source (this project's own).
use Rattle.std.specs.Prelude.{◌≡◌, ℕ, List, slice_index_or, Option, Some, None}
use Rattle.pd_base.specs.Links.{LinkList, IsLink}
use Rattle.pd_base.specs.declared.ids.LineId.{LineId}

-- the line to which a source is linked, if it is
abbrev pub head_at : List (Option LineId) → ℕ → Option LineId
head_at heads source = slice_index_or heads source None

-- each source has the line of its link there, and what stands there is a link
pub record AreHeads (links : LinkList) (heads : List (Option LineId)) : Type 0 where
  pub each : (source line : ℕ) → IsLink links source line → head_at heads source ≡ Some (record { 0 = line })
  pub only : (source : ℕ) (line : LineId) → head_at heads source ≡ Some line → IsLink links source line.0
