-- States of the lines of a cone, as a list has them by line number, and pairs of vectors under which they are the lines' states
-- (this project's own).
use Rattle.std.specs.Prelude.{◌≡◌, ℕ, ◌<◌, true, false, List, length, slice_index_or, All, Contains}
use Rattle.pd_base.specs.Pair.{Vectors}
use Rattle.pd_base.specs.Links.{LinkList, IsLink}
use Rattle.pd_base.specs.declared.ids.LineId.{LineId}
use Rattle.netlist.specs.Circuit.{Circuit, source_count, line_count}
use Rattle.netlist.specs.Pins.{IsInFanIn}
use Rattle.netlist.specs.LinkedPairs.{KeepsLinks, IsSupported}
use Rattle.netlist.specs.Values.{bit_of, value}
use Rattle.state_sets.specs.declared.state.State.{State}
use Rattle.state_sets.specs.States.{Has}
use Rattle.state_sets.specs.StateAlgebra.{StateAlgebra}
use Rattle.state_sets.specs.LineStates.{state_under}

-- the state of a line
abbrev pub state_in : List State → ℕ → State
state_in states line = slice_index_or states line (record { 0 = 0 })

-- each of these is one of so many states
abbrev pub AreStates : ℕ → List State → Type 0
AreStates count states = All (λ state. state.0 < count) states

-- each of these sources is in a state that a source may have
abbrev pub AreSourceStates : StateAlgebra → List LineId → List State → Type 0
AreSourceStates a sources states =
    (source : ℕ) → Contains sources (record { 0 = source }) → Has a.count a.sources (state_in states source)

-- a state for each line of the circuit
pub record AreLineStates (count : ℕ) (c : Circuit) (states : List State) : Type 0 where
  pub places : length states ≡ line_count c
  pub below : AreStates count states

-- States were written at lines of gates: there are as many as before, each is one of so many, and those of the sources are the same.
pub record KeepsSourceStates (count : ℕ) (c : Circuit) (old new : List State) : Type 0 where
  pub places : length new ≡ length old
  pub states : AreStates count new
  pub sources : (source : ℕ) → source < source_count c → state_in new source ≡ state_in old source

-- under the pair, each source in the support of the end under links is in its state
abbrev pub HasSourceStates : StateAlgebra → Circuit → LinkList → ℕ → List State → Vectors → Type 0
HasSourceStates a c links end states pair =
    (source : ℕ) → source < source_count c → IsSupported c links end source → state_under a c pair source ≡ state_in states source

-- each line there is
abbrev pub HasSupportStates : StateAlgebra → Circuit → LinkList → ℕ → List State → Vectors → Type 0
HasSupportStates a c links end states pair =
    (line : ℕ) → IsSupported c links end line → state_under a c pair line ≡ state_in states line

-- each link of a source there is one of states that may be linked
abbrev pub HasLinkedStates : StateAlgebra → Circuit → LinkList → ℕ → Vectors → Type 0
HasLinkedStates a c links end pair =
    (source line : ℕ) → IsSupported c links end source → IsLink links source line
    → a.link (state_under a c pair source) (state_under a c pair line) ≡ true

-- each line in the fan-in of the end is in its state
abbrev pub HasConeStates : StateAlgebra → Circuit → ℕ → List State → Vectors → Type 0
HasConeStates a c end states pair = (line : ℕ) → IsInFanIn c end line → state_under a c pair line ≡ state_in states line

-- A pair that is read off states: at the sources in the support of the end it has theirs. At the other sources its first vector is 0, and
-- its second has the first value of the line to which the source is linked, or 0 where it is not.
pub record IsReadFrom (a : StateAlgebra) (c : Circuit) (links : LinkList) (end : ℕ) (states : List State) (pair : Vectors) : Type 0 where
  pub first_fits : length pair.first ≡ source_count c
  pub second_fits : length pair.second ≡ source_count c
  pub has : HasSourceStates a c links end states pair
  pub first_zero : (source : ℕ) → source < source_count c → ¬ IsSupported c links end source → bit_of pair.first source ≡ false
  pub second_linked : (source line : ℕ) → source < source_count c → ¬ IsSupported c links end source → IsLink links source line
      → bit_of pair.second source ≡ value c pair.first line
  pub second_zero : (source : ℕ) → source < source_count c → ¬ IsSupported c links end source → ((line : ℕ) → ¬ IsLink links source line)
      → bit_of pair.second source ≡ false

-- A pair that keeps the links: at the sources outside the support of the end its first vector is 0, and so is the second where no link tells
-- its bit.
pub record IsLinkedFrom (c : Circuit) (links : LinkList) (end : ℕ) (pair : Vectors) : Type 0 where
  pub first_fits : length pair.first ≡ source_count c
  pub second_fits : length pair.second ≡ source_count c
  pub keeps : KeepsLinks c links pair
  pub first_zero : (source : ℕ) → source < source_count c → ¬ IsSupported c links end source → bit_of pair.first source ≡ false
  pub second_zero : (source : ℕ) → source < source_count c → ¬ IsSupported c links end source → ((line : ℕ) → ¬ IsLink links source line)
      → bit_of pair.second source ≡ false
