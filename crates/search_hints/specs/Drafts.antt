-- What a search by decisions on lines keeps of a circuit (this project's own).
use Rattle.std.specs.Prelude.{◌≡◌, ℕ, ◌<◌, List, [], All}
use Rattle.pd_base.specs.Links.{LinkList}
use Rattle.pd_base.specs.declared.ids.GateId.{GateId}
use Rattle.pd_base.specs.declared.ids.LineId.{LineId}
use Rattle.netlist.specs.Circuit.{Circuit, gate_count, line_count, HasGates, HasLines}
use Rattle.netlist.specs.Lawful.{IsCircuit}
use Rattle.netlist.specs.Levels.{greatest_level}
use Rattle.hulls.specs.Conditions.{Entered}
use Rattle.cones.specs.KeptCones.{KeptCone}
use Rattle.search_hints.specs.declared.draft.GateOfTwo.{GateOfTwo}
use Rattle.search_hints.specs.declared.decisions.Decision.{Decision}
use Rattle.search_hints.specs.declared.decisions.Next.{Next}
use Rattle.search_hints.specs.declared.decisions.Next.TheVariants.{Nothing, Decide, GiveUp}

-- how many lines and how many gates there is room for
pub record Sizes : Type 0 where
  pub lines : ℕ
  pub gates : ℕ

-- there is room for those of this circuit
pub record IsSizedFor (c : Circuit) (sizes : Sizes) : Type 0 where
  pub lines : sizes.lines ≡ line_count c
  pub gates : sizes.gates ≡ gate_count c

-- a gate of the circuit, and lines of it
pub record IsGateOfTwo (c : Circuit) (at : GateOfTwo) : Type 0 where
  pub gate : at.gate.0 < gate_count c
  pub first : at.first.0 < line_count c
  pub second : at.second.0 < line_count c

-- what is kept beside the labels is of these lines and gates
pub record AreKept (sizes : Sizes) (decisions : List Decision) (marks : ℕ) (gates : List GateId) : Type 0 where
  pub made_on_lines : All (λ decision. decision.line.0 < sizes.lines) decisions
  pub one_each : marks ≡ sizes.lines
  pub open_gates : All (λ gate. gate.0 < sizes.gates) gates

-- there is room for as many lines in each of two frames, whose sources are among the lines
pub record AreFrames (lines first : ℕ) (sources first_sources : List LineId) : Type 0 where
  pub of_first : first ≡ lines
  pub on_lines : All (λ source. source.0 < lines) sources
  pub first_on_lines : All (λ source. source.0 < lines) first_sources

-- frames of other ends are of as many lines, and no links stand in any
pub record AreFramesAlike (lines : ℕ) (others : List ℕ) (links : LinkList) : Type 0 where
  pub each : All (λ other. other ≡ lines) others
  pub unlinked : links ≡ []

-- what is kept beside the decisions is of as many lines
pub record AreBeside (lines grounds frames completed : ℕ) : Type 0 where
  pub of_grounds : grounds ≡ lines
  pub of_frames : frames ≡ lines
  pub of_completed : completed ≡ lines

-- what is decided next is on a line of the circuit
abbrev pub IsNextIn : Circuit → Next → Type 0
IsNextIn c (Decide cut) = cut.line.0 < line_count c
IsNextIn c Nothing = Unit {0}
IsNextIn c GiveUp = Unit {0}

-- the conditions that are entered, and how many lines and gates there is room for
pub record Prepared : Type 0 where
  pub entered : Entered
  pub sizes : Sizes

-- no step is entered, and there is room for the steps, the lines and the gates of this circuit
pub record IsJustifierOf (c : Circuit) (prepared : Prepared) : Type 0 where
  pub circuit : IsCircuit c
  pub gates : prepared.entered.gates ≡ gate_count c
  pub room : prepared.entered.room ≡ greatest_level c
  pub steps : prepared.entered.steps ≡ []
  pub sizes : IsSizedFor c prepared.sizes

-- a cone's marks are one for each line, and its sources and gates are of this circuit
pub record IsConeIn (c : Circuit) (cone : KeptCone) : Type 0 where
  pub marks : cone.found.room ≡ line_count c
  pub sources : HasLines c cone.sources
  pub gates : HasGates c cone.gates
