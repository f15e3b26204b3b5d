-- The sets that are seen at a gate, and what choices out of them keep there (this project's own).
use Rattle.std.specs.Prelude.{ℕ, ◌<◌, List, [], ◌∷◌, length, map, Option, None}
use Rattle.state_sets.specs.declared.state.StateSet.{StateSet}
use Rattle.state_sets.specs.declared.condition.Condition.{Condition}
use Rattle.state_sets.specs.StateAlgebra.{StateAlgebra}
use Rattle.state_sets.specs.Labellings.{label_at}
use Rattle.state_sets.specs.Narrowing.{GateSets, GivesAtGate, GivesAtPin}
use Rattle.hulls.specs.declared.view.GateView.{GateView}
use Rattle.hulls.specs.declared.few.KeptAtOne.{KeptAtOne}
use Rattle.hulls.specs.declared.few.KeptAtTwo.{KeptAtTwo}
use Rattle.hulls.specs.declared.three.KeptAtThree.{KeptAtThree}
use Rattle.hulls.specs.Sets.{Means, set_at}

-- the sets of the lines that the pins read, pin by pin
abbrev pub pin_sets : GateView → List StateSet
pin_sets gate = map (λ line. label_at gate.labels.now line.0) gate.pins.now

-- what narrowing looks at there
abbrev pub sets_seen : GateView → GateSets
sets_seen gate = record { kind = gate.kind; pins = pin_sets gate; own = gate.own }

-- at each pin these sets have the states that allowed choices have there
abbrev pub AreKeptAtPins : StateAlgebra → GateView → Option Condition → List StateSet → Type 0
AreKeptAtPins a gate condition kept =
    (pin : ℕ) → pin < length gate.pins.now → Means a.count (set_at kept pin) (GivesAtPin a (sets_seen gate) condition pin)

-- the set has the states that allowed choices give at the gate's line
abbrev pub IsGivenAtGate : StateAlgebra → GateView → Option Condition → StateSet → Type 0
IsGivenAtGate a gate condition given = Means a.count given (GivesAtGate a (sets_seen gate) condition)

-- the states that allowed choices have at the only pin, and those that they give at the gate's line
pub record IsKeptAtOne (a : StateAlgebra) (sets : GateSets) (condition : Option Condition) (kept : KeptAtOne) : Type 0 where
  pub first : Means a.count kept.first (GivesAtPin a sets condition 0)
  pub given : Means a.count kept.given (GivesAtGate a sets condition)

-- the same at two pins
pub record IsKeptAtTwo (a : StateAlgebra) (sets : GateSets) (condition : Option Condition) (kept : KeptAtTwo) : Type 0 where
  pub first : Means a.count kept.first (GivesAtPin a sets condition 0)
  pub second : Means a.count kept.second (GivesAtPin a sets condition 1)
  pub given : Means a.count kept.given (GivesAtGate a sets condition)

-- the same at three pins, without a condition
pub record IsKeptAtThree (a : StateAlgebra) (sets : GateSets) (kept : KeptAtThree) : Type 0 where
  pub first : Means a.count kept.first (GivesAtPin a sets None 0)
  pub second : Means a.count kept.second (GivesAtPin a sets None 1)
  pub third : Means a.count kept.third (GivesAtPin a sets None 2)
  pub given : Means a.count kept.given (GivesAtGate a sets None)

-- what is kept at three pins, pin by pin
abbrev pub three_kept : KeptAtThree → List StateSet
three_kept kept = kept.first ∷ kept.second ∷ kept.third ∷ []
