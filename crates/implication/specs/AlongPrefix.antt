-- What a scope has entered of a prefix: so many of its pins, one after another, from the source on (this project's own).
use Rattle.std.specs.Prelude.{◌≡◌, ℕ, ◌≤◌, length, map, take, Some, None, IfSome}
use Rattle.pd_base.specs.declared.fault.Direction.{Direction}
use Rattle.pd_base.specs.declared.fault.Kind.{Kind}
use Rattle.pd_base.specs.Route.{Route}
use Rattle.state_sets.specs.StateAlgebra.{StateAlgebra}
use Rattle.implication.specs.declared.assumption.Beginning.{Beginning}
use Rattle.implication.specs.declared.assumption.Assumption.TheVariants.{Entered}
use Rattle.implication.specs.Moves.{risen}
use Rattle.implication.specs.Standing.{Standing, IsOpenIn}

-- the scope has begun at the source of the prefix and has entered these first pins alone; no conflict stands, and each line has some
-- state left
pub record HasEnteredTo (a : StateAlgebra) (prefix : Route) (count : ℕ) (standing : Standing) : Type 0 where
  pub begun : Beginning
  pub beginning : standing.beginning ≡ Some begun
  pub source : begun.source ≡ prefix.source
  pub entered : standing.assumptions ≡ map Entered (take count prefix.steps)
  pub free : standing.conflict ≡ None
  pub left_open : IsOpenIn a standing

-- So many of the first pins of the prefix were entered, and nothing else was assumed: all of them, where no conflict stands. To so many
-- conflicts as were counted before, one that stands is added where a pin was entered.
pub record HasEnteredAlong (prefix : Route) (before : ℕ) (new : Standing) : Type 0 where
  pub count : ℕ
  pub within : count ≤ length prefix.steps
  pub entered : new.assumptions ≡ map Entered (take count prefix.steps)
  pub all : new.conflict ≡ None → length prefix.steps ≤ count
  pub free : new.conflict ≡ None → new.closings ≡ before
  pub at_source : count ≡ 0 → new.closings ≡ before
  pub counted : 1 ≤ count → IfSome new.conflict (λ line. new.closings ≡ risen before)

-- a scope has begun here with the pins of the prefix entered, up to the first conflict, if one comes
pub record HasBegunAt (prefix : Route) (direction : Direction) (kind : Kind) (old new : Standing) : Type 0 where
  pub net : new.net ≡ old.net
  pub rules : new.rules ≡ old.rules
  pub ends : new.ends ≡ old.ends
  pub beginning : new.beginning ≡ Some (record { source = prefix.source; direction = direction; kind = kind })
  pub along : HasEnteredAlong prefix old.closings new
