-- What contracts see of an engine and of the scopes on it (this project's own).
use Rattle.std.specs.Prelude.{◌≡◌, ⊤, ℕ, ◌<◌, ◌⊎◌, Bool, false, List, [], Option, Some, None, IsSome, cond}
use Rattle.pd_base.specs.Links.{LinkList, links_of, IsLink}
use Rattle.pd_base.specs.declared.ids.LineId.{LineId}
use Rattle.pd_base.specs.declared.rules.Rules.{Rules}
use Rattle.netlist.specs.Circuit.{Circuit, source_count, line_count}
use Rattle.netlist.specs.LinkedPairs.{IsSupported}
use Rattle.cones.specs.Ends.{IsBehind}
use Rattle.state_sets.specs.declared.state.State.{State}
use Rattle.state_sets.specs.declared.state.StateSet.{StateSet}
use Rattle.state_sets.specs.States.{Has}
use Rattle.state_sets.specs.StateAlgebra.{StateAlgebra}
use Rattle.state_sets.specs.Labellings.{label_at}
use Rattle.implication.specs.declared.assumption.Beginning.{Beginning}
use Rattle.implication.specs.declared.assumption.Assumption.{Assumption}
use Rattle.implication.specs.Assumptions.{end_under, IsHullUnder, IsEmptiedUnder, ClosesUnder}

-- The lines behind which an engine tells: their whole support, or the lines near them alone, which are in their fan-in, over no link.
pub record ToldEnds : Type 0 where
  pub lines : List LineId
  pub near : Bool

-- these lines, and whether the near lines alone are told
abbrev pub told_ends : List LineId → Bool → ToldEnds
told_ends lines near = record { lines = lines; near = near }

-- the links that are followed behind the ends: none where near lines alone are told
abbrev pub followed_by : ToldEnds → LinkList → LinkList
followed_by ends links = cond ends.near [] links

-- the links are followed behind the ends, or all lines are told
abbrev pub FollowsLinks : Option ToldEnds → Type 0
FollowsLinks None = ⊤
FollowsLinks (Some ends) = ends.near ≡ false

-- How an engine and the innermost scope on it stand: the circuit; the rules of the start; the ends behind which lines are told, or None
-- where all lines are; with what the outermost scope began, and None where no scope is open; what was assumed and entered since, in
-- order; the line of the conflict that stands, if there is one; and how many times an assume or enter has come upon a conflict.
pub record Standing : Type 0 where
  pub net : Circuit
  pub rules : Rules
  pub ends : Option ToldEnds
  pub beginning : Option Beginning
  pub assumptions : List Assumption
  pub conflict : Option LineId
  pub closings : ℕ

-- how an engine stands on which no scope is open
abbrev pub idle_on : Circuit → Rules → Option ToldEnds → Standing
idle_on net rules ends = record {
  net = net;
  rules = rules;
  ends = ends;
  beginning = None;
  assumptions = [];
  conflict = None;
  closings = 0;
}

-- A line is told where all are, and otherwise where it is a source without a link, or behind one of the ends over links that are followed.
abbrev pub IsToldBy : Circuit → LinkList → Option ToldEnds → ℕ → Type 0
IsToldBy c links None line = ⊤
IsToldBy c links (Some ends) line =
    ((line < source_count c) × ((other : ℕ) → ¬ IsLink links line other)) ⊎ IsBehind c (followed_by ends links) ends.lines line

-- the same as an engine stands
abbrev pub IsTold : Standing → ℕ → Type 0
IsTold standing line = IsToldBy standing.net (links_of standing.rules) standing.ends line

-- each line in the support of an end is told
abbrev pub IsSupportTold : Standing → ℕ → Type 0
IsSupportTold standing end = (line : ℕ) → IsSupported standing.net (links_of standing.rules) end line → IsTold standing line

-- the answer for a line: each state that the line has by these labels, and where the line is told no other one
pub record TellsLabel (count : ℕ) (standing : Standing) (labels : List StateSet) (line : ℕ) (answer : StateSet) : Type 0 where
  pub contains : (state : State) → Has count (label_at labels line) state → Has count answer state
  pub told : IsTold standing line → answer ≡ label_at labels line

-- the same for each line
abbrev pub TellsLabels : ℕ → Standing → List StateSet → List StateSet → Type 0
TellsLabels count standing labels answers =
    (line : ℕ) → line < line_count standing.net → TellsLabel count standing labels line (label_at answers line)

-- no scope is open, and nothing is assumed
pub record IsIdle (standing : Standing) : Type 0 where
  pub not_begun : standing.beginning ≡ None
  pub nothing : standing.assumptions ≡ []
  pub free : standing.conflict ≡ None

-- a scope is open, and no conflict stands
pub record IsFree (standing : Standing) : Type 0 where
  pub begun : IsSome standing.beginning
  pub free : standing.conflict ≡ None

-- the last line of the prefix of the scope; where none is open, line 0
abbrev pub end_from : Circuit → Option Beginning → List Assumption → ℕ
end_from c None assumptions = 0
end_from c (Some begun) assumptions = end_under c begun assumptions

-- the same of how a scope stands
abbrev pub end_of_scope : Standing → ℕ
end_of_scope standing = end_from standing.net standing.beginning standing.assumptions

-- these are the labels of the scope: the hull under its assumptions. Nothing is said where no scope is open.
abbrev pub IsHullFrom : StateAlgebra → Circuit → Rules → Option Beginning → List Assumption → List StateSet → Type 0
IsHullFrom a c rules None assumptions hull = ⊤
IsHullFrom a c rules (Some begun) assumptions hull = IsHullUnder a c rules begun assumptions hull

-- these are the labels as a scope stands
abbrev pub IsLabels : StateAlgebra → Standing → List StateSet → Type 0
IsLabels a standing labels = IsHullFrom a standing.net standing.rules standing.beginning standing.assumptions labels

-- the assumptions of the scope leave no state at this line
abbrev pub IsEmptiedFrom : StateAlgebra → Circuit → Rules → Option Beginning → List Assumption → ℕ → Type 0
IsEmptiedFrom a c rules None assumptions line = ⊤
IsEmptiedFrom a c rules (Some begun) assumptions line = (line < line_count c) × IsEmptiedUnder a c rules begun assumptions line

-- no state is left at this line as a scope stands; nothing is said where none is open
abbrev pub IsEmptiedIn : StateAlgebra → Standing → ℕ → Type 0
IsEmptiedIn a standing line = IsEmptiedFrom a standing.net standing.rules standing.beginning standing.assumptions line

-- the assumptions of the scope leave each line some state
abbrev pub IsOpenFrom : StateAlgebra → Circuit → Rules → Option Beginning → List Assumption → Type 0
IsOpenFrom a c rules None assumptions = ⊤
IsOpenFrom a c rules (Some begun) assumptions = ¬ ClosesUnder a c rules begun assumptions

-- each line has some state as a scope stands; nothing is said where none is open
abbrev pub IsOpenIn : StateAlgebra → Standing → Type 0
IsOpenIn a standing = IsOpenFrom a standing.net standing.rules standing.beginning standing.assumptions
