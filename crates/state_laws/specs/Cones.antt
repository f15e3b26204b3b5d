-- Narrowings at some gates of a circuit alone, as those of a cone, and what they tell of all of it (this project's own).
use Rattle.std.specs.Prelude.{◌≡◌, ℕ, ◌<◌, ◌⊎◌, Bool, true, ◌↔◌, List, All}
use Rattle.pd_base.specs.Links.{LinkList, IsLink}
use Rattle.pd_base.specs.declared.ids.PinRef.{PinRef}
use Rattle.pd_base.specs.declared.fault.Kind.{Kind}
use Rattle.netlist.specs.Circuit.{Circuit, gate_count, gate_line, source_count, pins_at}
use Rattle.netlist.specs.Lawful.{ReadsGate}
use Rattle.state_sets.specs.declared.state.State.{State}
use Rattle.state_sets.specs.declared.state.StateSet.{StateSet}
use Rattle.state_sets.specs.States.{Has}
use Rattle.state_sets.specs.StateAlgebra.{StateAlgebra}
use Rattle.state_sets.specs.Labellings.{label_at, LiesIn}
use Rattle.state_sets.specs.Hulls.{Narrowing, IsNarrowingOf, IsHull, HasNoEmptySet, condition_at}
use Rattle.state_sets.specs.Hulls.Narrowing.{at_gate, along_link}

-- the gates inside have with each gate those whose lines it reads
abbrev pub IsClosedBack : Circuit → (ℕ → Bool) → Type 0
IsClosedBack c inside = (gate other : ℕ) → gate < gate_count c → inside gate ≡ true → ReadsGate c gate other → inside other ≡ true

-- the narrowings at the gates inside, under the conditions of these steps, and along these links
abbrev pub IsNarrowingIn : Circuit → (ℕ → Bool) → LinkList → Kind → List PinRef → Narrowing → Type 0
IsNarrowingIn c inside links kind steps (at_gate gate condition) =
    (gate < gate_count c) × (inside gate ≡ true) × (condition ≡ condition_at kind steps gate)
IsNarrowingIn c inside links kind steps (along_link source line) = IsLink links source line

-- a source, or the line of a gate inside
abbrev pub IsLineIn : Circuit → (ℕ → Bool) → ℕ → Type 0
IsLineIn c inside line = (line < source_count c) ⊎ ((gate : ℕ) × (gate < gate_count c) × (inside gate ≡ true) × (line ≡ gate_line c gate))

-- A line is inside: as a source each of whose links is inside, also one without a link, or as the line of a gate inside.
abbrev pub IsLineWithin : Circuit → (ℕ → Bool) → LinkList → LinkList → ℕ → Type 0
IsLineWithin c inside links inner line =
    ((line < source_count c) × ((other : ℕ) → IsLink links line other → IsLink inner line other))
    ⊎ ((gate : ℕ) × (gate < gate_count c) × (inside gate ≡ true) × (line ≡ gate_line c gate))

-- Gates inside, and of these links the inner ones: the lines that pins of gates inside read are inside, and so are those to which inner
-- links go.
pub record IsClosedUnder (c : Circuit) (inside : ℕ → Bool) (links inner : LinkList) : Type 0 where
  pub pins : (gate : ℕ) → gate < gate_count c → inside gate ≡ true → All (λ pin. IsLineWithin c inside links inner pin.0) (pins_at c gate)
  pub among : (source line : ℕ) → IsLink inner source line → IsLink links source line
  pub lines : (source line : ℕ) → IsLink inner source line → IsLineWithin c inside links inner line

-- A source that is linked by a link outside may be in every state of a source, and in no other one.
abbrev pub AreFreeOutside : StateAlgebra → LinkList → LinkList → (ℕ → State → Type 0) → Type 0
AreFreeOutside a links inner May =
    (source line : ℕ) → IsLink links source line → ¬ IsLink inner source line
    → (state : State) → May source state ↔ Has a.count a.sources state

-- The labels are those of a hull of the whole circuit at these lines: in that hull each line has some state, and none that these
-- labels do not have.
pub record IsPartOfHull (a : StateAlgebra) (c : Circuit) (Within : ℕ → Type 0) (links : LinkList) (kind : Kind) (steps : List PinRef)
    (May : ℕ → State → Type 0) (labels : List StateSet) : Type 0 where
  pub whole : List StateSet
  pub hull : IsHull a c (IsNarrowingOf c links kind steps) May whole
  pub none_empty : HasNoEmptySet c whole
  pub same : (line : ℕ) → Within line → label_at whole line ≡ label_at labels line
  pub lies : LiesIn a.count whole labels
