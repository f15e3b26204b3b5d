-- Vectors side by side: bit k of a line's word belongs to lane k (this project's own).
use Rattle.std.specs.Prelude.{◌≡◌, ℕ, ◌<◌, ◌==◌, Bool, List, length, slice_index_or}
use Rattle.std.specs.Int.{bit_at}
use Rattle.netlist.specs.Values.{bit_of}

-- the bit of a word in this lane
abbrev pub lane_of : ℕ → ℕ → Bool
lane_of word lane = bit_at word lane == 1

-- the bit in this lane of the word of a line
abbrev pub lane_bit : List ℕ → ℕ → ℕ → Bool
lane_bit words lane line = lane_of (slice_index_or words line 0) lane

-- the vector stands in this lane: there each of its sources has its bit
pub record IsInLane (words : List ℕ) (lane : ℕ) (vector : List Bool) : Type 0 where
  pub each : (source : ℕ) → source < length vector → lane_bit words lane source ≡ bit_of vector source
