-- The sources that are blamed for a failure (this project's own).
use Rattle.std.specs.Prelude.{◌≡◌, ℕ, ◌<◌, List, Option, Some, None, IfSome, All}
use Rattle.pd_base.specs.Links.{LinkList}
use Rattle.pd_base.specs.declared.ids.LineId.{LineId}
use Rattle.netlist.specs.Circuit.{Circuit, HasLines, source_count}
use Rattle.netlist.specs.LinkedPairs.{IsSupported}

-- how many lines there may be, and the sources that are blamed
pub record BlamedSources : Type 0 where
  pub room : ℕ
  pub sources : List LineId

-- each of these is a source, and is in the support, under any links, of each end whose support has the lines of a failure
pub record AreBlamed (c : Circuit) (line : LineId) (side : Option LineId) (sources : List LineId) : Type 0 where
  pub are_sources : All (λ source. source.0 < source_count c) sources
  pub supported : (links : LinkList) (end : ℕ) → IsSupported c links end line.0 → IfSome side (λ other. IsSupported c links end other.0)
      → All (λ source. IsSupported c links end source.0) sources

-- the lines of the circuit, each of which is in the support of every end whose support has the old lines
pub record AreBehind (c : Circuit) (old new : List LineId) : Type 0 where
  pub in_circuit : HasLines c new
  pub supported : (links : LinkList) (end : ℕ) → All (λ line. IsSupported c links end line.0) old
      → All (λ line. IsSupported c links end line.0) new

-- there is a line, and it has this number
abbrev pub IsSomeLine : ℕ → Option LineId → Type 0
IsSomeLine number None = ⊥
IsSomeLine number (Some line) = line.0 ≡ number
