-- What functions that take a scope promise of it (this project's own).
use Rattle.std.specs.Prelude.{◌≡◌, ⊤, ◌≤◌, List, length, take, None, Result, Err, IfNone, IfSome, IfErr, OnOk}
use Rattle.state_sets.specs.StateAlgebra.{StateAlgebra}
use Rattle.implication.specs.declared.assumption.Assumption.{Assumption}
use Rattle.implication.specs.declared.assumption.Conflict.{Conflict}
use Rattle.implication.specs.Standing.{Standing, IsFree, IsEmptiedIn, IsOpenIn}
use Rattle.implication.specs.Moves.{conflict_at, grown, closed_at}

-- All is as it was. Only the count of conflicts may have risen.
pub record IsRestored (old new : Standing) : Type 0 where
  pub net : new.net ≡ old.net
  pub rules : new.rules ≡ old.rules
  pub ends : new.ends ≡ old.ends
  pub beginning : new.beginning ≡ old.beginning
  pub assumptions : new.assumptions ≡ old.assumptions
  pub conflict : new.conflict ≡ old.conflict
  pub later : old.closings ≤ new.closings

-- What was assumed still is, and perhaps more: going back to the old length restores what stood.
pub record ExtendsStanding (old new : Standing) : Type 0 where
  pub net : new.net ≡ old.net
  pub rules : new.rules ≡ old.rules
  pub ends : new.ends ≡ old.ends
  pub beginning : new.beginning ≡ old.beginning
  pub longer : length old.assumptions ≤ length new.assumptions
  pub front : take (length old.assumptions) new.assumptions ≡ old.assumptions
  pub conflict : conflict_at new (length old.assumptions) ≡ old.conflict
  pub later : old.closings ≤ new.closings

-- What the conflict of a standing tells: where none stands, each line has some state left, and one stands at a line that has none.
pub record TellsOfConflict (a : StateAlgebra) (standing : Standing) : Type 0 where
  pub left_open : IfNone standing.conflict (IsOpenIn a standing)
  pub emptied : IfSome standing.conflict (λ line. IsEmptiedIn a standing line.0)

-- What an attempt to assume more answers and does, where this is the list of assumptions with what is assumed.
pub record TellsOfMore (a : StateAlgebra) (list : List Assumption) (old new : Standing) (answer : Result ⊤ Conflict) : Type 0 where
  -- while a conflict stands, the answer is that conflict
  pub held : IfSome old.conflict (λ line. (answer ≡ Err (record { 0 = line })) × (new ≡ old))
  -- where no scope is open, nothing changes
  pub idle : old.beginning ≡ None → new ≡ old
  -- otherwise the list is this one; a conflict is noted and counted
  pub ok : OnOk answer (new ≡ grown old list)
  pub err : IsFree old → IfErr answer (λ conflict. new ≡ closed_at old list conflict.0)
  -- Err if and only if the hull under the assumptions has an empty set
  pub left_open : OnOk answer (IsOpenIn a new)
  pub emptied : IfErr answer (λ conflict. IsEmptiedIn a new conflict.0.0)
