-- How a call may end before it writes: what was passed, and why it went no further (this project's own).
use Rattle.std.specs.Prelude.{◌≡◌, ℕ, ◌≤◌, List, [], ◌∷◌, ◌++◌, length}
use Rattle.pd_io.specs.Counts.{Rose}
use Rattle.pd_io.specs.Telling.{Tells, IsFrontOf}
use Rattle.pd_io.specs.Seen.{FilesSeen}
use Rattle.calls.specs.declared.role.Role.{Role}
use Rattle.calls.specs.declared.refusal.Refusal.{Refusal}
use Rattle.calls.specs.declared.ending.Ending.{Ending}
use Rattle.calls.specs.declared.ending.Ending.TheVariants.{Done, Refused, ReadFault, WriteFault, OutFault, NoMemory}
use Rattle.calls.specs.Work.{Work, Stage, Read, Require, names_read}
use Rattle.calls.specs.Passing.{Pass, AsksOnly, HasPassed}

-- the words or the inputs were refused, at the first requirement that does not accept them
pub record IsRefused (work : Work) (refusal : Refusal) (old new : FilesSeen) : Type 0 where
  pub before : List (Stage work.Requirement)
  pub requirement : work.Requirement
  pub inputs : List (List ℕ)
  pub place : IsFrontOf (before ++ Require requirement ∷ []) work.stages
  pub passed : HasPassed work before inputs old new
  pub refuses : work.Refuses requirement inputs refusal

-- a read of the file of this role failed, and all stages before it were passed
pub record IsUnread (work : Work) (role : Role) (old new : FilesSeen) : Type 0 where
  pub before : List (Stage work.Requirement)
  pub inputs : List (List ℕ)
  pub name : List ℕ
  pub place : IsFrontOf (before ++ Read role name ∷ []) work.stages
  pub passed : Pass work old.folder before [] inputs
  pub asked : Tells old.folder new.folder (AsksOnly (names_read before ++ name ∷ []))
  pub rose : Rose old.read_faults new.read_faults
  pub write_faults : new.write_faults ≡ old.write_faults

-- memory ran out before anything was written: some stages were passed, and no more was read than the next one reads
pub record LacksMemory (work : Work) (old new : FilesSeen) : Type 0 where
  pub before : List (Stage work.Requirement)
  pub next : List (Stage work.Requirement)
  pub inputs : List (List ℕ)
  pub names : List (List ℕ)
  pub place : IsFrontOf (before ++ next) work.stages
  pub one_at_most : length next ≤ 1
  pub passed : Pass work old.folder before [] inputs
  pub front : IsFrontOf names (names_read (before ++ next))
  pub asked : Tells old.folder new.folder (AsksOnly names)
  pub read_faults : new.read_faults ≡ old.read_faults
  pub write_faults : new.write_faults ≡ old.write_faults

-- a call of this work ended so before it wrote
abbrev pub Stops : Work → Ending → FilesSeen → FilesSeen → Type 0
Stops work Done old new = ⊥
Stops work (Refused refusal) old new = IsRefused work refusal old new
Stops work (ReadFault role) old new = IsUnread work role old new
Stops work (WriteFault role) old new = ⊥
Stops work OutFault old new = ⊥
Stops work (NoMemory _) old new = LacksMemory work old new
