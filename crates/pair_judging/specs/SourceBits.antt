-- The bits that the state of a source stands for, and bits that are written at sources (this project's own).
use Rattle.std.specs.Prelude.{◌≡◌, ℕ, ◌<◌, Bool, false, not, cond, List, length, slice_index_or, Contains}
use Rattle.pd_base.specs.Pair.{Vectors}
use Rattle.pd_base.specs.Links.{LinkList, IsLink}
use Rattle.pd_base.specs.declared.ids.LineId.{LineId}
use Rattle.netlist.specs.Circuit.{Circuit, source_count}
use Rattle.netlist.specs.LinkedPairs.{IsSupported}
use Rattle.netlist.specs.Values.{bit_of}
use Rattle.state_sets.specs.declared.state.State.{State}
use Rattle.state_sets.specs.StateAlgebra.{StateAlgebra}
use Rattle.state_sets.specs.LineStates.{state_under}
use Rattle.pair_judging.specs.ConeStates.{state_in}

-- the bit of the first vector at a source in this state: its last value if it is steady, else the other one
abbrev pub first_bit : StateAlgebra → State → Bool
first_bit a state = cond (a.steady state) (a.last state) (not (a.last state))

-- at these sources a vector has the bits that are due there, and elsewhere those that it had
pub record HasBitsAt (due : ℕ → Bool) (sources : List LineId) (old new : List Bool) : Type 0 where
  pub places : length new ≡ length old
  pub here : (source : ℕ) → Contains sources (record { 0 = source }) → slice_index_or new source false ≡ due source
  pub elsewhere : (source : ℕ) → ¬ Contains sources (record { 0 = source }) → slice_index_or new source false ≡ slice_index_or old source false

-- each of these sources of a circuit is in its state under the pair
abbrev pub AreTakenOf : StateAlgebra → Vectors → List LineId → List State → Type 0
AreTakenOf a pair sources states =
    (c : Circuit) (source : ℕ) → source < source_count c → Contains sources (record { 0 = source })
    → state_under a c pair source ≡ state_in states source

-- At the sources in the support of the end the pair has the first values of these states, and at those without a link the last values too.
pub record HasStateBits (a : StateAlgebra) (c : Circuit) (links : LinkList) (end : ℕ) (states : List State) (pair : Vectors) : Type 0 where
  pub first : (source : ℕ) → source < source_count c → IsSupported c links end source
      → bit_of pair.first source ≡ first_bit a (state_in states source)
  pub last : (source : ℕ) → source < source_count c → IsSupported c links end source → ((line : ℕ) → ¬ IsLink links source line)
      → bit_of pair.second source ≡ a.last (state_in states source)

-- Each linked source but those that are kept has a bit that is due at the line to which it is linked; all others have the bits that they
-- had.
pub record AreLinkBits (due : ℕ → Bool) (links : LinkList) (Kept : ℕ → Type 0) (old new : List Bool) : Type 0 where
  pub linked : (source line : ℕ) → ¬ Kept source → IsLink links source line → slice_index_or new source false ≡ due line
  pub kept : (source : ℕ) → Kept source → slice_index_or new source false ≡ slice_index_or old source false
  pub free : (source : ℕ) → ((line : ℕ) → ¬ IsLink links source line) → slice_index_or new source false ≡ slice_index_or old source false
