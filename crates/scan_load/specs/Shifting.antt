-- Bits that are shifted into a scan chain (scan design).
use Rattle.std.specs.Prelude.{◌≡◌, ◌+◌, ◌-◌, Bool, List, ◌∷◌, ◌++◌, length, take, reverse, map, fold, All}
use Rattle.pd_base.specs.Pair.{Vectors}
use Rattle.pd_base.specs.declared.ids.LineId.{LineId}
use Rattle.netlist.specs.Values.{bit_of}
use Rattle.scan_order.specs.SkewedLinks.{links_along}

-- the state of a chain after one shift: the bit has come in at the front, each other one has moved on, and the last has gone out
abbrev pub shift : List Bool → Bool → List Bool
shift state bit = bit ∷ take (length state - 1) state

-- the state after these bits were shifted in, one after another
abbrev pub after_shifts : List Bool → List Bool → List Bool
after_shifts state bits = fold shift state bits

-- the bits that a vector has at the lines of a chain
abbrev pub chain_bits : List LineId → List Bool → List Bool
chain_bits chain vector = map (λ line. bit_of vector line.0) chain

-- at each line of the chain but the first, the second vector has the bit that the first has at the line before
abbrev pub ShiftsOn : List LineId → Vectors → Type 0
ShiftsOn chain pair = All (λ link. bit_of pair.second link.0.0 ≡ bit_of pair.first link.1.0) (links_along chain)

-- The string loads the pair into the chain: it has one bit more than the chain has lines; from every state of the chain, all but its last
-- bit bring the first vector there, and all its bits the second.
pub record Loads (chain : List LineId) (pair : Vectors) (string : List Bool) : Type 0 where
  pub count : length string ≡ length chain + 1
  pub first : (state : List Bool) → length state ≡ length chain
      → after_shifts state (take (length chain) string) ≡ chain_bits chain pair.first
  pub second : (state : List Bool) → length state ≡ length chain → after_shifts state string ≡ chain_bits chain pair.second

-- some string loads the pair into the chain
abbrev pub IsLoadable : List LineId → Vectors → Type 0
IsLoadable chain pair = (string : List Bool) × Loads chain pair string

-- the bits that are shifted in for a pair: the first vector's at the flip-flops of the chain, the last flip-flop's first, and then the second
-- vector's at the first flip-flop
abbrev pub load_bits : List LineId → Vectors → List Bool
load_bits chain pair = reverse (chain_bits chain pair.first) ++ take 1 (chain_bits chain pair.second)
