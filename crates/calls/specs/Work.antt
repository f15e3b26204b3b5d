-- What a command is, apart from its code: the stages before it writes, when it refuses what it read, and what it gives. Each
-- command has such a value, in a file of specs of its own (this project's own).
use Rattle.std.specs.Prelude.{ℕ, List, [], ◌∷◌}
use Rattle.calls.specs.declared.role.Role.{Role}
use Rattle.calls.specs.declared.refusal.Refusal.{Refusal}

-- a stage of a command before it writes, where `R` are the requirements that it knows
pub data Stage (R : Type 0) : Type 0 where
  -- the file of this role, which has this name, is read: to its end, or to one byte past the command's limit
  Read : Role → List ℕ → Stage R
  -- what was read so far has to meet this requirement
  Require : R → Stage R

-- a file that is due to be written: its role, its name and its text
pub record Due : Type 0 where
  pub role : Role
  pub name : List ℕ
  pub text : List ℕ

-- such a file
abbrev pub due_file : Role → List ℕ → List ℕ → Due
due_file role name text = record { role = role; name = name; text = text }

-- what a command gives in the end: files, in the order in which they are written, and then a text on out
pub record Products : Type 0 where
  pub files : List Due
  pub out : List ℕ

-- a command, with its names and numbers
pub record Work : Type 1 where
  -- what it requires of its words, and of the inputs that were read so far
  pub Requirement : Type 0
  -- what it does before it writes, in order
  pub stages : List (Stage Requirement)
  -- of the files that were read so far these are all bytes, in order, and by this requirement they are refused so
  pub Refuses : Requirement → List (List ℕ) → Refusal → Type 0
  -- inputs that were all read and not refused, all bytes of each, may lead to these products
  pub Gives : List (List ℕ) → Products → Type 0

-- the names that these stages read, in order
abbrev pub names_read : {R : Type 0} → List (Stage R) → List (List ℕ)
names_read [] = []
names_read (Read role name ∷ stages) = name ∷ names_read stages
names_read (Require requirement ∷ stages) = names_read stages
