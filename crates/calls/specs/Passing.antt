-- Stages that a call has passed: what was read, and that no requirement refused it (this project's own).
use Rattle.std.specs.Prelude.{◌≡◌, ⊤, ℕ, List, [], ◌∷◌, ◌++◌, Option, None, Some}
use Rattle.pd_io.specs.Folder.{Folder, bytes_at}
use Rattle.pd_io.specs.Telling.{Tells}
use Rattle.pd_io.specs.Seen.{FilesSeen}
use Rattle.calls.specs.declared.refusal.Refusal.{Refusal}
use Rattle.calls.specs.Work.{Work, Stage, Read, Require, names_read}

-- this holds of what an object tells, where it tells
abbrev pub OfTold : {A : Type 0} → Option A → (A → Type 0) → Type 0
OfTold None P = ⊤
OfTold (Some told) P = P told

-- these are all bytes under the name, as far as the files tell
abbrev pub HasBytes : Option Folder → List ℕ → List ℕ → Type 0
HasBytes folder name bytes = OfTold folder (λ told. bytes ≡ bytes_at told.held name)

-- this requirement refuses these inputs in no way
abbrev pub Accepts : (work : Work) → work.Requirement → List (List ℕ) → Type 0
Accepts work requirement inputs = (refusal : Refusal) → ¬ work.Refuses requirement inputs refusal

-- These stages are passed from inputs that were read before on: `all` is those inputs, and behind them the bytes that the
-- reads of the stages add, and each requirement accepts what was read before it.
abbrev pub Pass : (work : Work) → Option Folder → List (Stage work.Requirement) → List (List ℕ) → List (List ℕ) → Type 0
Pass work folder [] inputs all = all ≡ inputs
Pass work folder (Read role name ∷ stages) inputs all =
    (bytes : List ℕ) × HasBytes folder name bytes × Pass work folder stages (inputs ++ bytes ∷ []) all
Pass work folder (Require requirement ∷ stages) inputs all =
    Accepts work requirement inputs × Pass work folder stages inputs all

-- these names were asked, and nothing else happened to the files
abbrev pub AsksOnly : List (List ℕ) → Folder → Folder → Type 0
AsksOnly names before after = after ≡ record { held = before.held; asked = before.asked ++ names }

-- only reads took place, and none failed, as far as the counts tell; the same file is open for writing
pub record HasOnlyRead (old new : FilesSeen) : Type 0 where
  pub writer : new.writer ≡ old.writer
  pub read_faults : new.read_faults ≡ old.read_faults
  pub write_faults : new.write_faults ≡ old.write_faults

-- a call of this work has passed these stages with these inputs, and of the files nothing changed but the names asked
pub record HasPassed (work : Work) (stages : List (Stage work.Requirement)) (inputs : List (List ℕ)) (old new : FilesSeen) : Type 0 where
  pub passed : Pass work old.folder stages [] inputs
  pub asked : Tells old.folder new.folder (AsksOnly (names_read stages))
  pub only : HasOnlyRead old new
