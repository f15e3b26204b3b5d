-- The steps of a prefix at whose gates conditions stand (this project's own).
use Rattle.std.specs.Prelude.{◌≡◌, ◌≢◌, ℕ, ◌<◌, ◌≤◌, List, length, All, AllPairs, slice_index_or}
use Rattle.pd_base.specs.declared.ids.PinRef.{PinRef}
use Rattle.pd_base.specs.declared.fault.Kind.{Kind}
use Rattle.netlist.specs.Circuit.{Circuit, gate_count}
use Rattle.netlist.specs.Pins.{IsPin}
use Rattle.hulls.specs.Marks.{mark_at}

-- the kind of the tests, how many gates there are, how many steps there is room for, and the steps that were entered
pub record Entered : Type 0 where
  pub kind : Kind
  pub gates : ℕ
  pub room : ℕ
  pub steps : List PinRef

-- each gate has its mark, no two steps go through one gate, and there is room for them and for more
pub record IsMarked (marks : List ℕ) (room capacity : ℕ) (steps : List PinRef) : Type 0 where
  pub each : (gate : ℕ) → gate < length marks → slice_index_or marks gate 0 ≡ mark_at steps gate
  pub gates : All (λ step. step.gate.0 < length marks) steps
  pub once : AllPairs (λ a b. a.gate.0 ≢ b.gate.0) steps
  pub few : length steps ≤ room
  pub reserved : room ≤ capacity

-- what was entered is of this circuit
pub record IsEnteredOn (c : Circuit) (entered : Entered) : Type 0 where
  pub gates : entered.gates ≡ gate_count c
  pub steps : All (IsPin c) entered.steps
