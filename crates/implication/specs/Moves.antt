-- What the calls on a scope make of its standing (this project's own).
use Rattle.std.specs.Prelude.{◌≡◌, ℕ, ◌+◌, ◌-◌, ◌^◌, ◌==◌, min, nat_lt, List, [], ◌∷◌, ◌++◌, length, take, Option, Some, None, if◌then◌else◌}
use Rattle.pd_base.specs.declared.ids.LineId.{LineId}
use Rattle.pd_base.specs.declared.ids.PinRef.{PinRef}
use Rattle.state_sets.specs.declared.state.StateSet.{StateSet}
use Rattle.state_sets.specs.States.{both_sets}
use Rattle.implication.specs.declared.assumption.Beginning.{Beginning}
use Rattle.implication.specs.declared.assumption.Assumption.{Assumption}
use Rattle.implication.specs.declared.assumption.Assumption.TheVariants.{Entered, Assumed}
use Rattle.implication.specs.declared.assumption.Origin.{Origin}
use Rattle.implication.specs.declared.assumption.Origin.TheVariants.{Begun, Within}
use Rattle.implication.specs.Assumptions.{left_of}
use Rattle.implication.specs.Standing.{Standing}

-- the list with a pin more
abbrev pub with_entered : List Assumption → PinRef → List Assumption
with_entered list pin = list ++ Entered pin ∷ []

-- the list with what is left of a line cut down; it stays as it is where that takes no state away
abbrev pub with_cut : List Assumption → LineId → StateSet → StateSet → List Assumption
with_cut list line left cut = if left.0 == cut.0 then list else list ++ Assumed line cut ∷ []

-- the list with a set assumed of a line: what was left of the line, intersected with the set
abbrev pub with_assumed : ℕ → List Assumption → LineId → StateSet → List Assumption
with_assumed count list line set =
    with_cut list line (left_of count line list) (both_sets (left_of count line list) set)

-- one more, up to the greatest number of 64 bits
abbrev pub risen : ℕ → ℕ
risen n = min (n + 1) (2 ^ 64 - 1)

-- the assumptions are now this list
abbrev pub grown : Standing → List Assumption → Standing
grown standing list = record standing { assumptions = list }

-- the assumptions are now this list, and leave no state at this line: a conflict stands, and it is counted
abbrev pub closed_at : Standing → List Assumption → LineId → Standing
closed_at standing list line =
    record standing { assumptions = list; conflict = Some line; closings = risen standing.closings }

-- The conflict that stood when the list was cut to this length. Nothing is added while a conflict stands, so where the list was
-- longer there was none.
abbrev pub conflict_at : Standing → ℕ → Option LineId
conflict_at standing mark = if nat_lt mark (length standing.assumptions) then None else standing.conflict

-- back to the time when the list last had this length
abbrev pub back_at : Standing → ℕ → Standing
back_at standing mark =
    record standing { assumptions = take mark standing.assumptions; conflict = conflict_at standing mark }

-- no scope is open any more
abbrev pub idle_again : Standing → Standing
idle_again standing = record standing { beginning = None; assumptions = []; conflict = None }

-- what a scope leaves when it is closed or dropped: it takes back all that came since it was made
abbrev pub left_behind : Origin → Standing → Standing
left_behind Begun standing = idle_again standing
left_behind (Within length) standing = back_at standing length

-- the length of the list when the scope was made
abbrev pub start_at : Origin → ℕ
start_at Begun = 0
start_at (Within length) = length

-- a scope has begun here, and nothing is assumed or entered yet; a conflict may stand from here on
pub record HasBegun (begun : Beginning) (old new : Standing) : Type 0 where
  pub net : new.net ≡ old.net
  pub rules : new.rules ≡ old.rules
  pub ends : new.ends ≡ old.ends
  pub beginning : new.beginning ≡ Some begun
  pub nothing : new.assumptions ≡ []
  pub closings : new.closings ≡ old.closings
