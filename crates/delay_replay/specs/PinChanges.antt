-- What the pins of a gate are yet to see, told by the next change of each (this project's own).
use Rattle.std.specs.Prelude.{◌≡◌, ℕ, ◌+◌, ◌≤◌, ◌<◌, ℤ, pos, ◌<ℤ◌, int_le, Bool, not, false, List, [], ◌∷◌, ◌++◌, Option, None, Some, option_to_list, length, map, drop, sum_by, slice_index_or, if◌then◌else◌, All}
use Rattle.std.specs.List.Sorted.{IsPermutation}
use Rattle.std.specs.declared.cmp.Ordering.{Ordering}
use Rattle.std.specs.Ordering.{on, flip_args, int_cmp}
use Rattle.netlist.specs.Values.{parity}
use Rattle.delay_replay.specs.declared.pin_changes.PinChange.{PinChange}
use Rattle.delay_replay.specs.Changes.{Changes, AreTimesRising, wave_at}

-- true counts once
abbrev pub one : Bool → ℕ
one bit = if bit then 1 else 0

-- how many of the values are 1
abbrev pub ones : List Bool → ℕ
ones values = sum_by one values

-- what a pin sees, where these are what all pins of its gate see, by pin
abbrev pub copy_at : List Changes → ℕ → Changes
copy_at copies pin = slice_index_or copies pin (record { before = false; times = [] })

-- what the pins show at a time
abbrev pub copy_values : List Changes → ℤ → List Bool
copy_values copies time = map (λ copy. wave_at copy time) copies

-- a value at a time, turned once for each change that has come
abbrev pub turned_by : Bool → List ℤ → ℤ → Bool
turned_by value times time = parity (value ∷ map (λ change. int_le change time) times)

-- the changes of a pin that come behind its next one
abbrev pub behind : List Changes → PinChange → List ℤ
behind copies next = drop next.behind (copy_at copies next.pin).times

-- what a pin shows at a time, told by its next change: until then the other value, from then on turned by those behind it
abbrev pub shown : List Changes → PinChange → ℤ → Bool
shown copies next time =
    parity (not next.rises ∷ int_le next.time time ∷ map (λ change. int_le change time) (behind copies next))

-- the next change of a pin comes before all behind it
pub record IsPinChange (copies : List Changes) (next : PinChange) : Type 0 where
  pub pin : next.pin < length copies
  pub first : All (λ change. next.time <ℤ change) (behind copies next)

-- the change at this place of what a pin sees, where it has that value until then
pub record IsChangeAt (changes : Changes) (seen place : ℕ) (until : Bool) (next : PinChange) : Type 0 where
  pub pin : next.pin ≡ seen
  pub rises : next.rises ≡ not until
  pub rising : AreTimesRising changes.times
  pub inside : place < length changes.times
  pub time : next.time ≡ slice_index_or changes.times place (pos 0)
  pub behind : next.behind ≡ place + 1

-- likewise, where the pin may see no further change
abbrev pub IsNextOrNone : Changes → ℕ → ℕ → Bool → Option PinChange → Type 0
IsNextOrNone changes pin place value None = length changes.times ≤ place
IsNextOrNone changes pin place value (Some next) = IsChangeAt changes pin place value next

-- the order of a store that gives the soonest change as its greatest
abbrev pub sooner : PinChange → PinChange → Ordering
sooner = flip_args (on (λ change. change.time) int_cmp)

-- the time is before all these changes
abbrev pub IsBeforeAll : ℤ → List PinChange → Type 0
IsBeforeAll time changes = All (λ change. time <ℤ change.time) changes

-- At a time the pins show these values, where so many are 1 until the soonest of their next changes: a pin that has none
-- shows the same from then on, and each other one what its next change tells.
abbrev pub AreCounted : List Changes → List Bool → ℕ → List PinChange → ℤ → Type 0
AreCounted copies values count nexts time =
    ones values + sum_by (λ next. one (not next.rises)) nexts ≡ count + sum_by (λ next. one (shown copies next time)) nexts

-- Of so many pins so many are 1 until the soonest of their next changes.
pub record AreAmong (pins count : ℕ) (nexts : List PinChange) : Type 0 where
  pub least : sum_by (λ next. one (not next.rises)) nexts ≤ count
  pub most : count + sum_by (λ next. one next.rises) nexts ≤ pins

-- the soonest change has left the store, and the next one of its pin, if there is one, is in its place
pub record PassesChange (copies : List Changes) (soonest : PinChange) (old new : List PinChange) : Type 0 where
  pub next : Option PinChange
  pub rest : List PinChange
  pub was : IsPermutation old (soonest ∷ rest)
  pub now : IsPermutation (option_to_list next ++ rest) new
  pub is : IsNextOrNone (copy_at copies soonest.pin) soonest.pin soonest.behind soonest.rises next
