-- Orders of numbers. Each stands over plain numbers: a tactic reads all that is in scope, and where these are cited that is much.
use Rattle.std.proofs.Common.{◌≡◌, ℕ, ◌+◌, ◌-◌, ◌*◌, ◌≤◌, min, refl, arith}

pub at_least : (low high : ℕ) → high ≡ low → low ≤ high
at_least low high same = omega arith

pub no_less : (first middle last : ℕ) → first ≤ middle → middle ≤ last → first ≤ last
no_less first middle last rising more = omega arith

pub up_from : (first middle last : ℕ) → middle ≡ first → middle ≤ last → first ≤ last
up_from first middle last same rising = omega arith

-- what is kept of a list up to a mark is no longer than the mark
pub late_enough : (few steps mark long kept : ℕ) → kept ≡ min mark long → steps ≤ kept → few ≤ steps → few ≤ mark
late_enough few steps mark long kept is late fits = omega arith

-- as much is left to do where nothing was split, and no place is less or more
pub as_much_left : (budget before after places left : ℕ) → after ≡ before → left ≡ places
    → 2 * (budget - after) + left ≤ 2 * (budget - before) + places
as_much_left budget before after places left same_splits same_places = rw (same_splits, same_places) (at_least _ _ refl)
