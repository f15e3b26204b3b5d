-- What an engine keeps: the board, whose trail leads back to the labels before each assumption, and what was left of each line (this
-- project's own).
use Rattle.std.specs.Prelude.{◌≡◌, ◌≢◌, ⊤, ℕ, ◌+◌, ◌-◌, ◌*◌, ◌<◌, ◌≤◌, ◌⊎◌, List, length, take, drop, slice_index_or, slice_set, ◌↔◌, [], ◌∷◌, ◌++◌, All, Bool, true, Option, Some, None, IfSome, IfNone}
use Rattle.pd_base.specs.Links.{LinkList, links_of, IsLink}
use Rattle.pd_base.specs.declared.ids.LineId.{LineId}
use Rattle.pd_base.specs.declared.ids.PinRef.{PinRef}
use Rattle.pd_base.specs.declared.rules.Rules.{Rules}
use Rattle.pd_base.specs.declared.fault.Kind.{Kind}
use Rattle.netlist.specs.Circuit.{Circuit, source_count, gate_count, line_count, gate_line}
use Rattle.netlist.specs.declared.limits.TheConstants.{MOST_FAN_IN}
use Rattle.netlist.specs.Lawful.{IsCircuit}
use Rattle.netlist.specs.LinkedPairs.{AreLinksOf}
use Rattle.netlist.specs.Levels.{greatest_level}
use Rattle.netlist.specs.Paths.{Connects}
use Rattle.state_sets.specs.declared.state.State.{State}
use Rattle.state_sets.specs.declared.state.StateSet.{StateSet}
use Rattle.state_sets.specs.States.{both_sets, no_states}
use Rattle.state_sets.specs.StateAlgebra.{StateAlgebra}
use Rattle.state_sets.specs.Labellings.{label_at}
use Rattle.state_sets.specs.Hulls.{HasAt, HasNoEmptySet, IsHull, IsEmptied, condition_at}
use Rattle.state_laws.specs.Cones.{IsClosedUnder, IsNarrowingIn}
use Rattle.state_laws.specs.FirstValues.{IsNear}
use Rattle.hulls.specs.Conditions.{Entered as EnteredSteps}
use Rattle.undo_trail.specs.Undoing.{undone}
use Rattle.hulls.specs.Awaiting.{is_inside}
use Rattle.hulls.specs.Boards.{OnBoard, IsBoardOf, Follows}
use Rattle.implication.specs.declared.assumption.Beginning.{Beginning}
use Rattle.implication.specs.declared.assumption.Assumption.{Assumption}
use Rattle.implication.specs.declared.assumption.Assumption.TheVariants.{Entered, Assumed}
use Rattle.implication.specs.declared.before.Before.{Before}
use Rattle.implication.specs.Assumptions.{entered_pins, left_of, IsLetBy, MayUnder}
use Rattle.implication.specs.Standing.{Standing, ToldEnds, IsToldBy}
use Rattle.implication.specs.FirstStates.{HasFirstValues}
use Rattle.implication.specs.Idling.{Idling, StandsBy, IsIdleBoard}

-- a set assumed of a line of the circuit, which takes some state away from what was left of the line
pub record TakesSome (lines : ℕ) (line : LineId) (left set : StateSet) : Type 0 where
  pub in_circuit : line.0 < lines
  pub inside : both_sets left set ≡ set
  pub fewer : left.0 ≢ set.0

-- an assumption about a line takes some state away from what the ones before it left of the line
abbrev pub TakesFrom : ℕ → ℕ → List Assumption → Assumption → Type 0
TakesFrom count lines before (Entered pin) = ⊤
TakesFrom count lines before (Assumed line set) = TakesSome lines line (left_of count line before) set

-- an assumption about a line is one about a line of the circuit
abbrev pub IsAboutLine : ℕ → Assumption → Type 0
IsAboutLine lines (Entered pin) = ⊤
IsAboutLine lines (Assumed line set) = line.0 < lines

-- so does each of the rest, behind the ones before
abbrev pub DoShrink : ℕ → ℕ → List Assumption → List Assumption → Type 0
DoShrink count lines before [] = ⊤
DoShrink count lines before (entry ∷ rest) =
    TakesFrom count lines before entry × DoShrink count lines (before ++ entry ∷ []) rest

-- a list as scopes make it: the pins connect from the source, and each set takes some state away
pub record AreAssumptions (count : ℕ) (c : Circuit) (begun : Beginning) (assumptions : List Assumption) : Type 0 where
  pub source : begun.source.0 < source_count c
  pub connects : Connects c begun.source.0 (entered_pins assumptions)
  pub shrink : DoShrink count (line_count c) [] assumptions

-- the gate of a pin that was entered has a line that is told, and so is a line of which a set was assumed
abbrev pub IsToldEntry : Circuit → LinkList → Option ToldEnds → Assumption → Type 0
IsToldEntry c links ends (Entered pin) = IsToldBy c links ends (gate_line c pin.gate.0)
IsToldEntry c links ends (Assumed line set) = IsToldBy c links ends line.0

-- the same for each entry
abbrev pub AreToldEntries : Circuit → LinkList → Option ToldEnds → List Assumption → Type 0
AreToldEntries c links ends assumptions = All (IsToldEntry c links ends) assumptions

-- the list is one as scopes make it, where a scope is open
abbrev pub IsListFrom : ℕ → Circuit → LinkList → Option ToldEnds → Option Beginning → List Assumption → Type 0
IsListFrom count c links ends None assumptions = ⊤
IsListFrom count c links ends (Some begun) assumptions = AreAssumptions count c begun assumptions × AreToldEntries c links ends assumptions

-- so many assumptions can stand at most: of each line as many as there are states, and as many pins as there are levels
abbrev pub most_assumptions : ℕ → Circuit → ℕ
most_assumptions count c = count * line_count c + greatest_level c

-- there is room for the conditions of every prefix
pub record HasStepRoom (c : Circuit) (steps : EnteredSteps) : Type 0 where
  pub gates : steps.gates ≡ gate_count c
  pub levels : steps.room ≡ greatest_level c

-- there is room for the step, and no step before goes through its gate
pub record CanEnter (steps : EnteredSteps) (step : PinRef) : Type 0 where
  pub gate : step.gate.0 < steps.gates
  pub pin : step.pin < MOST_FAN_IN
  pub first : condition_at steps.kind steps.steps step.gate.0 ≡ None
  pub place : length steps.steps < steps.room

-- likewise for the step of an entry, if it is that of a pin
abbrev pub CanStep : EnteredSteps → Assumption → Type 0
CanStep steps (Entered pin) = CanEnter steps pin
CanStep steps (Assumed line set) = ⊤

-- the new labels are the old ones, cut by these assumptions about lines
abbrev pub AreCutBy : ℕ → List Assumption → List StateSet → List StateSet → Type 0
AreCutBy count assumptions old new = (line : ℕ) (state : State)
    → HasAt count new line state ↔ (HasAt count old line state × All (IsLetBy count line state) assumptions)

-- What settling tells: the labels are the hull of others, by the narrowings inside, and each line has some state; or no state is left
-- at this line.
pub record IsSettledFrom (a : StateAlgebra) (c : Circuit) (inside : List Bool) (links : LinkList) (kind : Kind) (steps : List PinRef)
    (first labels : List StateSet) (answer : Option LineId) : Type 0 where
  pub hull : IfNone answer (IsHull a c (IsNarrowingIn c (is_inside inside) links kind steps) (HasAt a.count first) labels)
  pub none_empty : IfNone answer (HasNoEmptySet c labels)
  pub emptied : IfSome answer (λ line. (line.0 < line_count c)
      × IsEmptied a c (IsNarrowingIn c (is_inside inside) links kind steps) (HasAt a.count first) line.0)

-- the board was narrowed on under one entry more
pub record IsNarrowedMore (a : StateAlgebra) (c : Circuit) (entry : Assumption) (kind : Kind) (steps : List PinRef) (old new : OnBoard)
    (answer : Option LineId) : Type 0 where
  pub first : List StateSet
  pub cut : AreCutBy a.count (entry ∷ []) old.labels first
  pub settled : IsSettledFrom a c old.inside old.links kind steps first new.labels answer

-- a board was narrowed and rests: the same gates and links are inside, its new notes lead back to the old labels, and nothing waits
pub record IsNarrowedToRest (old new : OnBoard) : Type 0 where
  pub inside : new.inside ≡ old.inside
  pub links : new.links ≡ old.links
  pub follows : Follows old new
  pub at_rest : new.waiting ≡ []

-- what is left of the lines under an entry more
abbrev pub left_with : Assumption → List StateSet → List StateSet
left_with (Entered pin) left = left
left_with (Assumed line set) left = slice_set left line.0 set

-- and without it again, where so much was left before of the line that it is about
abbrev pub left_without : Assumption → StateSet → List StateSet → List StateSet
left_without (Entered pin) before left = left
left_without (Assumed line set) before left = slice_set left line.0 before

-- the conditions without the step of the last entry, if it is that of a pin
abbrev pub steps_without : Assumption → EnteredSteps → EnteredSteps
steps_without (Entered pin) steps = record steps { steps = take (length steps.steps - 1) steps.steps }
steps_without (Assumed line set) steps = steps

-- from what the labels of a scope are: the circuit, the gates and links inside, the rules, and with what the scope began
pub record Outset : Type 0 where
  pub net : Circuit
  pub inside : List Bool
  pub inner : LinkList
  pub rules : Rules
  pub begun : Beginning

-- the labels are the hull by the narrowings inside, and each line has some state
pub record IsOpenHull (a : StateAlgebra) (from : Outset) (assumptions : List Assumption) (labels : List StateSet) : Type 0 where
  pub hull : IsHull a from.net (IsNarrowingIn from.net (is_inside from.inside) from.inner from.begun.kind (entered_pins assumptions))
      (MayUnder a from.net from.rules from.begun assumptions) labels
  pub none_empty : HasNoEmptySet from.net labels

-- the narrowings inside leave no state at this line
pub record IsEmptiedInside (a : StateAlgebra) (from : Outset) (assumptions : List Assumption) (line : ℕ) : Type 0 where
  pub in_circuit : line < line_count from.net
  pub emptied : IsEmptied a from.net (IsNarrowingIn from.net (is_inside from.inside) from.inner from.begun.kind (entered_pins assumptions))
      (MayUnder a from.net from.rules from.begun assumptions) line

-- what labels and an answer tell: the labels are the hull and each line has some state; or no state is left at this line
abbrev pub AreLabelsUnder : StateAlgebra → Outset → List Assumption → List StateSet → Option LineId → Type 0
AreLabelsUnder a from assumptions labels None = IsOpenHull a from assumptions labels
AreLabelsUnder a from assumptions labels (Some line) = IsEmptiedInside a from assumptions line.0

-- what was left before an entry: where it is one about a line, the states that were left of the line
abbrev pub IsLeftBefore : ℕ → List Assumption → Assumption → StateSet → Type 0
IsLeftBefore count before (Entered pin) left = ⊤
IsLeftBefore count before (Assumed line set) left = left ≡ left_of count line before

-- what is left of each line
pub record AreLeft (count : ℕ) (lines : ℕ) (assumptions : List Assumption) (left : List StateSet) : Type 0 where
  pub one_each : length left ≡ lines
  pub each : (line : ℕ) → line < lines → label_at left line ≡ left_of count (record { 0 = line }) assumptions

-- what an engine has beside its standing: the board, the idle labels, what stood before each entry, what is left of each line, and
-- the conditions
pub record Kept : Type 0 where
  pub board : OnBoard
  pub idle : Idling
  pub befores : List Before
  pub left : List StateSet
  pub steps : EnteredSteps

-- nothing stood before
abbrev pub nothing_before : Before
nothing_before = record { changes = 0; left = no_states }

-- what stood before the entry at a place
abbrev pub before_at : List Before → ℕ → Before
before_at befores place = slice_index_or befores place nothing_before

-- the labels when so many changes were noted
abbrev pub labels_after : OnBoard → ℕ → List StateSet
labels_after board changes = undone (drop changes board.notes) board.labels

-- an entry with what stood before it: going back to so many changes gives the labels under the entries before it
pub record StoodAt (a : StateAlgebra) (from : Outset) (board : OnBoard) (before : List Assumption) (entry : Assumption) (was : Before)
    : Type 0 where
  pub few : was.changes ≤ length board.notes
  pub labels : IsOpenHull a from before (labels_after board was.changes)
  pub left : IsLeftBefore a.count before entry was.left

-- so it was at each entry of the list, and the changes grew from entry to entry
pub record Stood (a : StateAlgebra) (from : Outset) (board : OnBoard) (list : List Assumption) (befores : List Before) : Type 0 where
  pub one_each : length befores ≡ length list
  pub each : (place : ℕ) (else_ : Assumption) → place < length list
      → StoodAt a from board (take place list) (slice_index_or list place else_) (before_at befores place)
  pub rising : (earlier later : ℕ) → earlier ≤ later → later < length list
      → (before_at befores earlier).changes ≤ (before_at befores later).changes

-- what stands while a scope is open
pub record StandsOpen (a : StateAlgebra) (from : Outset) (ends : Option ToldEnds) (assumptions : List Assumption)
    (conflict : Option LineId) (kept : Kept) : Type 0 where
  pub list : AreAssumptions a.count from.net from.begun assumptions
  pub begins : IsToldBy from.net (links_of from.rules) ends from.begun.source.0
  pub told : AreToldEntries from.net (links_of from.rules) ends assumptions
  pub kind : kept.steps.kind ≡ from.begun.kind
  pub entered : kept.steps.steps ≡ entered_pins assumptions
  pub stood : Stood a from kept.board assumptions kept.befores
  pub left : AreLeft a.count (line_count from.net) assumptions kept.left
  pub answer : AreLabelsUnder a from assumptions kept.board.labels conflict
  pub idling : StandsBy a from.net from.rules kept.idle kept.board

-- what stands while no scope is open
pub record StandsIdle (a : StateAlgebra) (c : Circuit) (rules : Rules) (list : List Assumption) (conflict : Option LineId) (kept : Kept)
    : Type 0 where
  pub nothing : list ≡ []
  pub free : conflict ≡ None
  pub none_before : kept.befores ≡ []
  pub no_step : kept.steps.steps ≡ []
  pub left : AreLeft a.count (line_count c) [] kept.left
  pub idling : IsIdleBoard a c rules kept.idle kept.board

-- what stands, by whether a scope has begun
abbrev pub StandsFrom : StateAlgebra → Circuit → Rules → Option ToldEnds → Option Beginning → List Assumption → Option LineId → Kept
    → Type 0
StandsFrom a c rules ends None list conflict kept = StandsIdle a c rules list conflict kept
StandsFrom a c rules ends (Some begun) list conflict kept =
    StandsOpen a (record { net = c; inside = kept.board.inside; inner = kept.board.links; rules = rules; begun = begun }) ends list conflict kept

-- the gates inside are those whose lines are told, and the links inside those of sources that are told
pub record AreToldGates (c : Circuit) (links : LinkList) (ends : Option ToldEnds) (inside : List Bool) (inner : LinkList) : Type 0 where
  pub gates : gate_count c ≤ length inside
  pub closed : IsClosedUnder c (is_inside inside) links inner
  pub told : (gate : ℕ) → gate < gate_count c → (is_inside inside gate ≡ true) ↔ IsToldBy c links ends (gate_line c gate)
  pub sources : (source line : ℕ) → IsToldBy c links ends source → IsLink links source line → IsLink inner source line

-- The gates near are those whose lines are told, and the links inside those of sources that are told. Inside are the near gates, and
-- those behind the lines to which the links inside go.
pub record AreNearGates (c : Circuit) (links : LinkList) (ends : Option ToldEnds) (inside : List Bool) (inner : LinkList) : Type 0 where
  pub gates : gate_count c ≤ length inside
  pub near : List Bool
  pub closed : IsNear c (is_inside near) links inner
  pub told : (gate : ℕ) → gate < gate_count c → (is_inside near gate ≡ true) ↔ IsToldBy c links ends (gate_line c gate)
  pub sources : (source line : ℕ) → IsToldBy c links ends source → IsLink links source line → IsLink inner source line
  pub of : AreLinksOf c inner
  pub covers : (gate : ℕ) → gate < gate_count c → is_inside near gate ≡ true → is_inside inside gate ≡ true
  pub cone : IsClosedUnder c (is_inside inside) inner inner

-- What is inside is enough for the lines that are told: what is behind them over all links, or in states with first values what is behind
-- them over the links of near sources alone.
abbrev pub AreEnough : StateAlgebra → Circuit → LinkList → Option ToldEnds → List Bool → LinkList → Type 0
AreEnough a c links ends inside inner =
    AreToldGates c links ends inside inner ⊎ (HasFirstValues a × AreNearGates c links ends inside inner)

-- one flag for each line, true where it is told
pub record AreToldLines (c : Circuit) (links : LinkList) (ends : Option ToldEnds) (told : List Bool) : Type 0 where
  pub one_each : length told ≡ line_count c
  pub exactly : (line : ℕ) → line < line_count c → (is_inside told line ≡ true) ↔ IsToldBy c links ends line

-- what an engine keeps stands, and there is room for every list
pub record KeepsStanding (a : StateAlgebra) (standing : Standing) (kept : Kept) (capacity befores_capacity : ℕ) : Type 0 where
  pub circuit : IsCircuit standing.net
  pub board : IsBoardOf standing.net kept.board
  pub links : AreLinksOf standing.net (links_of standing.rules)
  pub cone : AreEnough a standing.net (links_of standing.rules) standing.ends kept.board.inside kept.board.links
  pub at_rest : kept.board.waiting ≡ []
  pub stands : StandsFrom a standing.net standing.rules standing.ends standing.beginning standing.assumptions standing.conflict kept
  pub step_room : HasStepRoom standing.net kept.steps
  pub room : most_assumptions a.count standing.net ≤ capacity
  pub befores_room : most_assumptions a.count standing.net ≤ befores_capacity
