-- Links between sources and lines of a circuit, and the pairs of vectors that keep them (this project's own).
use Rattle.std.specs.Prelude.{◌≡◌, ◌≢◌, ℕ, ◌<◌, All, AllPairs}
use Rattle.pd_base.specs.Pair.{Vectors}
use Rattle.pd_base.specs.Links.{LinkList, links_of, IsLink}
use Rattle.pd_base.specs.declared.rules.Rules.{Rules}
use Rattle.netlist.specs.Circuit.{Circuit, source_count, line_count}
use Rattle.netlist.specs.Pins.{IsInFanIn}
use Rattle.netlist.specs.Values.{bit_of, value}

-- the links are of this circuit: each is of a source and a line, and no source has two
pub record AreLinksOf (c : Circuit) (links : LinkList) : Type 0 where
  pub sources : All (λ link. link.0.0 < source_count c) links
  pub lines : All (λ link. link.1.0 < line_count c) links
  pub once : AllPairs (λ a b. a.0 ≢ b.0) links

-- the rules fit the circuit
abbrev pub FitRules : Circuit → Rules → Type 0
FitRules c rules = AreLinksOf c (links_of rules)

-- the pair keeps the links: the second bit of each linked source is the value of its line under the first vector
abbrev pub KeepsLinks : Circuit → LinkList → Vectors → Type 0
KeepsLinks c links pair = (source line : ℕ) → IsLink links source line → bit_of pair.second source ≡ value c pair.first line

-- the pair is one of the rules
abbrev pub IsOfRules : Circuit → Rules → Vectors → Type 0
IsOfRules c rules pair = KeepsLinks c (links_of rules) pair

-- A line is in the support of an end under links: it is in the transitive fan-in of the end, or in that of the line to which a source
-- of the support is linked.
pub data IsSupported (c : Circuit) (links : LinkList) (end : ℕ) : ℕ → Type 0 where
  in_fan_in : (line : ℕ) → IsInFanIn c end line → IsSupported c links end line
  behind_link : (source line other : ℕ) → IsSupported c links end source → IsLink links source line → IsInFanIn c line other
      → IsSupported c links end other
