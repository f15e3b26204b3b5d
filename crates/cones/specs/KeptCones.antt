-- The cone of a line: the lines of its support under links, which without links are those of its transitive fan-in, with the sources and
-- the gates among them (this project's own).
use Rattle.std.specs.Prelude.{◌≡◌, ℕ, ◌<◌, ◌≤◌, ◌↔◌, List, length, slice_index, slice_index_or, vec_capacity, Option, None, Some, IfSome, All, AllPairs, Contains}
use Rattle.pd_base.specs.Links.{LinkList}
use Rattle.pd_base.specs.declared.ids.LineId.{LineId}
use Rattle.pd_base.specs.declared.ids.GateId.{GateId}
use Rattle.netlist.specs.Circuit.{Circuit, source_count, gate_count, gate_line, line_count}
use Rattle.netlist.specs.Levels.{IsRankedBefore, IsRankOrder, ReadsEarlier}
use Rattle.netlist.specs.LinkedPairs.{AreLinksOf, IsSupported}
use Rattle.cones.specs.FoundLines.{FoundSet}
use Rattle.cones.specs.Ranks.{AreRanks}
use Rattle.cones.specs.declared.end_cone.EndCone.{EndCone}

-- What is at hand of a cone, if one is: its end, its lines, its sources and its gates. And of the circuit, whatever the cone is: the links
-- that stand, its gates in rank order, the place of each gate there, and cones that were at hand before.
pub record KeptCone : Type 0 where
  pub end : Option LineId
  pub found : FoundSet
  pub sources : List LineId
  pub gates : List GateId
  pub links : LinkList
  pub order : List GateId
  pub ranks : List ℕ
  pub others : List EndCone

-- the number is that of a gate whose line is among these
pub record IsRankAmong (c : Circuit) (lines : List LineId) (ranks : List ℕ) (rank : ℕ) : Type 0 where
  pub gate : ℕ
  pub in_circuit : gate < gate_count c
  pub among : Contains lines (record { 0 = gate_line c gate })
  pub ranked : slice_index ranks gate ≡ rank

-- the cone has room for as many sources and gates as there may be lines in it, and the numbers that are sorted have that room too
pub record HasRoomForLines (numbers : ℕ) (cone : EndCone) : Type 0 where
  pub for_sources : cone.found.room ≤ vec_capacity cone.sources
  pub for_gates : cone.found.room ≤ vec_capacity cone.gates
  pub for_numbers : cone.found.room ≤ numbers

-- there is such room in the cone at hand, and in each that is kept aside
pub record AllHaveRoom (numbers : ℕ) (current : EndCone) (others : List EndCone) : Type 0 where
  pub here : HasRoomForLines numbers current
  pub aside : All (HasRoomForLines numbers) others

-- the sources of the support of an end, in rising order
pub record AreConeSources (c : Circuit) (links : LinkList) (end : ℕ) (sources : List LineId) : Type 0 where
  pub rising : AllPairs (λ a b. a.0 < b.0) sources
  pub exactly : (source : ℕ) → Contains sources (record { 0 = source }) ↔ ((source < source_count c) × IsSupported c links end source)

-- the gates there, in rank order, each behind those whose lines it reads
pub record AreConeGates (c : Circuit) (links : LinkList) (end : ℕ) (gates : List GateId) : Type 0 where
  pub rising : AllPairs (IsRankedBefore c) gates
  pub exactly : (gate : ℕ) → Contains gates (record { 0 = gate }) ↔ ((gate < gate_count c) × IsSupported c links end (gate_line c gate))
  pub earlier : ReadsEarlier c gates

-- these are the lines of the cone of an end, its sources and its gates
pub record AreConeParts (c : Circuit) (links : LinkList) (end : ℕ) (found listed : List LineId) (ranked : List GateId) : Type 0 where
  pub lines : (line : ℕ) → Contains found (record { 0 = line }) ↔ IsSupported c links end line
  pub sources : AreConeSources c links end listed
  pub gates : AreConeGates c links end ranked

-- the cone at hand is that of this end
abbrev pub IsConeAt : Circuit → ℕ → KeptCone → Type 0
IsConeAt c end cone = AreConeParts c cone.links end cone.found.lines cone.sources cone.gates

-- a cone that is kept aside has room for that of any line of the circuit, and is that of its end, if it has one
pub record IsAside (c : Circuit) (links : LinkList) (cone : EndCone) : Type 0 where
  pub room : cone.found.room ≡ line_count c
  pub own : IfSome cone.end (λ end. AreConeParts c links end.0 cone.found.lines cone.sources.items cone.gates.items)

-- the cone that stands at this place is that of the end
abbrev pub IsPlaceOf : LineId → ℕ → List EndCone → Type 0
IsPlaceOf end place cones = (other : EndCone) → (slice_index_or cones place other).end ≡ Some end

-- the cone of no end, with room for that of any of so many lines
pub record IsNoCone (lines : ℕ) (cone : EndCone) : Type 0 where
  pub none : cone.end ≡ None
  pub room : cone.found.room ≡ lines
  pub for_sources : lines ≤ vec_capacity cone.sources
  pub for_gates : lines ≤ vec_capacity cone.gates

-- no cone is at hand and none is kept aside, and there is room for those of any of so many lines, under these links, whose gates have this
-- order and these places
pub record IsConeOfNone (lines : ℕ) (links : LinkList) (order : List GateId) (ranks : List ℕ) (cone : KeptCone) : Type 0 where
  pub room : cone.found.room ≡ lines
  pub linked : cone.links ≡ links
  pub ordered : cone.order ≡ order
  pub ranked : cone.ranks ≡ ranks
  pub none : cone.end ≡ None
  pub none_aside : All (IsNoCone lines) cone.others

-- cones are kept for this circuit, the one at hand is that of its end, and so is each that is kept aside
pub record IsConeFor (c : Circuit) (cone : KeptCone) : Type 0 where
  pub room : cone.found.room ≡ line_count c
  pub fit : AreLinksOf c cone.links
  pub ordered : IsRankOrder c cone.order
  pub one_each : length cone.ranks ≡ gate_count c
  pub places : AreRanks cone.order cone.ranks
  pub kept : IfSome cone.end (λ end. IsConeAt c end.0 cone)
  pub aside : All (IsAside c cone.links) cone.others
