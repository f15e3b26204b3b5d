-- Which flaw of a run is told: the first by the part of the run that it is in, then by its item, then by its reason. What is right of
-- each item is in Right.antt (this project's own).
use Rattle.std.specs.Prelude.{◌≡◌, ℕ, ◌<◌, MatchOption, Option}
use Rattle.claim_check.specs.declared.claim.Flaw.{Flaw}
use Rattle.claim_check.specs.declared.claim.Reason.{Reason}
use Rattle.claim_check.specs.declared.claim.Reason.TheVariants.{WrongCount, WrongPath, WrongLength, BadRefutation, BadSpent, NotShared, BadTest, WrongExpected}

-- the part of a run that a reason is about, in the order of judging: the counts, the listed paths, the proofs, the faults
abbrev pub part_of : Reason → ℕ
part_of WrongCount = 1
part_of WrongPath = 2
part_of WrongLength = 2
part_of BadRefutation = 3
part_of BadSpent = 3
part_of NotShared = 4
part_of BadTest = 4
part_of WrongExpected = 4

-- the turn of a reason: of one item the reasons are told in this order
abbrev pub turn_of : Reason → ℕ
turn_of WrongCount = 1
turn_of WrongPath = 2
turn_of WrongLength = 3
turn_of BadRefutation = 4
turn_of BadSpent = 5
turn_of NotShared = 6
turn_of BadTest = 7
turn_of WrongExpected = 8

-- a flaw is told before another one: that of the earlier part; of one part that of the lesser item; at one item that whose reason
-- stands first
pub data IsToldBefore (item : ℕ) (reason : Reason) (other : ℕ) (other_reason : Reason) : Type 0 where
  earlier_part : part_of reason < part_of other_reason → IsToldBefore item reason other other_reason
  lesser_item : part_of reason ≡ part_of other_reason → item < other → IsToldBefore item reason other other_reason
  earlier_reason : part_of reason ≡ part_of other_reason → item ≡ other → turn_of reason < turn_of other_reason
      → IsToldBefore item reason other other_reason

-- here is a flaw, something that is not right, and all that is told before it is right
pub record IsFirstFlaw (IsRight : ℕ → Reason → Type 0) (item : ℕ) (reason : Reason) : Type 0 where
  pub flawed : ¬ IsRight item reason
  pub before : (other : ℕ) (other_reason : Reason) → IsToldBefore other other_reason item reason → IsRight other other_reason

-- the same of one item alone
pub record IsFirstReason (IsRight : Reason → Type 0) (reason : Reason) : Type 0 where
  pub flawed : ¬ IsRight reason
  pub before : (other : Reason) → turn_of other < turn_of reason → IsRight other

-- what was found tells of all items: nothing, where all is right of each, or their first flaw
abbrev pub TellsOfItems : (ℕ → Reason → Type 0) → Option Flaw → Type 0
TellsOfItems IsRight found =
    MatchOption found ((item : ℕ) (reason : Reason) → IsRight item reason) (λ flaw. IsFirstFlaw IsRight flaw.item flaw.reason)

-- and of one item
abbrev pub TellsOfItem : (Reason → Type 0) → Option Reason → Type 0
TellsOfItem IsRight found = MatchOption found ((reason : Reason) → IsRight reason) (IsFirstReason IsRight)
