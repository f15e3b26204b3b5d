-- Pairs of vectors that leave the sources outside the support of a path at 0, as far as no link gives them their bits (this project's own).
use Rattle.std.specs.Prelude.{◌≡◌, ℕ, ◌<◌, false}
use Rattle.pd_base.specs.Links.{links_of, IsLink}
use Rattle.pd_base.specs.Pair.{Vectors}
use Rattle.pd_base.specs.Route.{Route}
use Rattle.pd_base.specs.declared.rules.Rules.{Rules}
use Rattle.netlist.specs.Circuit.{Circuit, source_count}
use Rattle.netlist.specs.Values.{bit_of}
use Rattle.trees.specs.Spent.{IsInSupport}

-- the source is 0 under the first vector, and under the second one too if no link gives it its bit there
pub record IsZeroAt (rules : Rules) (pair : Vectors) (source : ℕ) : Type 0 where
  pub first : bit_of pair.first source ≡ false
  pub second : ((line : ℕ) → ¬ IsLink (links_of rules) source line) → bit_of pair.second source ≡ false

-- so is each source outside the support of the path
abbrev pub IsZeroOutside : Circuit → Rules → Route → Vectors → Type 0
IsZeroOutside c rules path pair = (source : ℕ) → source < source_count c → ¬ IsInSupport c rules path source → IsZeroAt rules pair source
