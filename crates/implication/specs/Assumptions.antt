-- What a scope assumes: a transition at a source, pins entered one after another, and sets of states that lines are to be in. And
-- what lines may be in then (this project's own).
use Rattle.std.specs.Prelude.{◌≡◌, ⊤, ℕ, ◌==◌, List, [], ◌∷◌, All, if◌then◌else◌}
use Rattle.std.specs.List.{fold}
use Rattle.pd_base.specs.Links.{links_of}
use Rattle.pd_base.specs.declared.ids.LineId.{LineId}
use Rattle.pd_base.specs.declared.ids.PinRef.{PinRef}
use Rattle.pd_base.specs.declared.rules.Rules.{Rules}
use Rattle.netlist.specs.Circuit.{Circuit}
use Rattle.netlist.specs.Paths.{line_after}
use Rattle.state_sets.specs.declared.state.State.{State}
use Rattle.state_sets.specs.declared.state.StateSet.{StateSet}
use Rattle.state_sets.specs.States.{Has, all_states, both_sets}
use Rattle.state_sets.specs.StateAlgebra.{StateAlgebra}
use Rattle.state_sets.specs.Starts.{MayStart}
use Rattle.state_sets.specs.Hulls.{IsNarrowingOf, IsHull, IsEmptied, Closes}
use Rattle.implication.specs.declared.assumption.Beginning.{Beginning}
use Rattle.implication.specs.declared.assumption.Assumption.{Assumption}
use Rattle.implication.specs.declared.assumption.Assumption.TheVariants.{Entered, Assumed}

-- the pins that were entered, in order
abbrev pub entered_pins : List Assumption → List PinRef
entered_pins [] = []
entered_pins (Entered pin ∷ rest) = pin ∷ entered_pins rest
entered_pins (Assumed line set ∷ rest) = entered_pins rest

-- the last line of the prefix that these pins make
abbrev pub end_under : Circuit → Beginning → List Assumption → ℕ
end_under c begun assumptions = line_after c begun.source.0 (entered_pins assumptions)

-- what an assumption leaves of the states of a line: where it is one of this line, those that are in its set too
abbrev pub left_by : LineId → StateSet → Assumption → StateSet
left_by line left (Entered pin) = left
left_by line left (Assumed other set) = if other.0 == line.0 then both_sets left set else left

-- the intersection of the sets that are assumed of a line, and all states if there are none
abbrev pub left_of : ℕ → LineId → List Assumption → StateSet
left_of count line assumptions = fold (left_by line) (all_states count) assumptions

-- an assumption lets the line be in this state
abbrev pub IsLetBy : ℕ → ℕ → State → Assumption → Type 0
IsLetBy count line state (Entered pin) = ⊤
IsLetBy count line state (Assumed other set) = line ≡ other.0 → Has count set state

-- what a line may be in under assumptions: what it may be in at the start under the rules, and what each of them lets it be in
pub record MayUnder (a : StateAlgebra) (c : Circuit) (rules : Rules) (begun : Beginning) (assumptions : List Assumption) (line : ℕ) (state : State) : Type 0 where
  pub start : MayStart a c rules begun.source.0 begun.direction line state
  pub assumed : All (IsLetBy a.count line state) assumptions

-- the hull under assumptions: with the conditions of the kind of test at the gates of the pins entered
abbrev pub IsHullUnder : StateAlgebra → Circuit → Rules → Beginning → List Assumption → List StateSet → Type 0
IsHullUnder a c rules begun assumptions hull =
    IsHull a c (IsNarrowingOf c (links_of rules) begun.kind (entered_pins assumptions)) (MayUnder a c rules begun assumptions) hull

-- no state is left at this line
abbrev pub IsEmptiedUnder : StateAlgebra → Circuit → Rules → Beginning → List Assumption → ℕ → Type 0
IsEmptiedUnder a c rules begun assumptions line =
    IsEmptied a c (IsNarrowingOf c (links_of rules) begun.kind (entered_pins assumptions)) (MayUnder a c rules begun assumptions) line

-- no state is left at some line
abbrev pub ClosesUnder : StateAlgebra → Circuit → Rules → Beginning → List Assumption → Type 0
ClosesUnder a c rules begun assumptions =
    Closes a c (IsNarrowingOf c (links_of rules) begun.kind (entered_pins assumptions)) (MayUnder a c rules begun assumptions)
