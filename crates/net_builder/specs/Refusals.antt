-- Why a list of statements describes no circuit (ISCAS .bench; the limits and the order of the reasons are this project's own).
-- A reason applies only where none that stands before it does.
use Rattle.std.specs.Prelude.{◌≡◌, ◌≢◌, ⊤, ℕ, ◌<◌, List, ◌∷◌, ◌++◌, length, map, slice_get, Some, All, AllPairs, Contains}
use Rattle.netlist.specs.Circuit.{Circuit, gate_line}
use Rattle.netlist.specs.declared.limits.TheConstants.{MOST_LEVELS, MOST_LINES, MOST_PINS}
use Rattle.netlist.specs.Description.{Mention, definitions, uses, defined_names, stated_pins, described, gate_mentions, IsWithinLimits, AreDistinct, AreNamed}
use Rattle.netlist.specs.Lawful.{IsLooped, IsLoopFree}
use Rattle.netlist.specs.Levels.{level}
use Rattle.netlist.specs.Statements.{Numbered}
use Rattle.net_builder.specs.declared.fault.BuildFault.{BuildFault}
use Rattle.net_builder.specs.declared.fault.BuildFault.TheVariants.{TooManyLines, TooManyPins, Twice, Undefined, Loop, TooDeep, NoMemory}

-- so many lines are defined, which is more than the limit
pub record AreTooManyLines (statements : List Numbered) (count : ℕ) : Type 0 where
  pub counted : count ≡ length (definitions statements)
  pub many : MOST_LINES < count

-- the gates have so many pins, which is more than the limit
pub record AreTooManyPins (statements : List Numbered) (count : ℕ) : Type 0 where
  pub counted : count ≡ stated_pins statements
  pub many : MOST_PINS < count

-- the first definition of a name that was defined before
pub record IsTwice (statements : List Numbered) (mention : Mention) : Type 0 where
  pub before : List Mention
  pub later : List Mention
  pub place : definitions statements ≡ before ++ mention ∷ later
  pub again : Contains (map (λ earlier. earlier.name) before) mention.name
  pub first : AllPairs (λ a b. a ≢ b) (map (λ earlier. earlier.name) before)

-- the first use of a name that nothing defines
pub record IsUndefined (statements : List Numbered) (mention : Mention) : Type 0 where
  pub before : List Mention
  pub later : List Mention
  pub place : uses statements ≡ before ++ mention ∷ later
  pub undefined : ¬ Contains (defined_names statements) mention.name
  pub first : All (λ earlier. Contains (defined_names statements) earlier.name) before

-- the first gate in the order of the statements that is such a gate
pub record IsFirstGate (statements : List Numbered) (P : ℕ → Type 0) (mention : Mention) : Type 0 where
  pub gate : ℕ
  pub place : slice_get (gate_mentions statements) gate ≡ Some mention
  pub is : P gate
  pub first : (earlier : ℕ) → earlier < gate → ¬ P earlier

-- the level of this gate is over the limit
abbrev pub IsTooDeep : Circuit → ℕ → Type 0
IsTooDeep c gate = MOST_LEVELS < level c (gate_line c gate)

-- the limits of lines and pins are kept, and this is the first definition of a name that was defined before
pub record RefusesTwice (statements : List Numbered) (mention : Mention) : Type 0 where
  pub limits : IsWithinLimits statements
  pub twice : IsTwice statements mention

-- names are defined once, and this is the first use of one that is not defined
pub record RefusesUndefined (statements : List Numbered) (mention : Mention) : Type 0 where
  pub limits : IsWithinLimits statements
  pub distinct : AreDistinct statements
  pub undefined : IsUndefined statements mention

-- each use means one line, and this is the first gate on a loop, or fed by one
pub record RefusesLoop (statements : List Numbered) (mention : Mention) : Type 0 where
  pub named : AreNamed statements
  pub looped : IsFirstGate statements (IsLooped (described statements)) mention

-- there is no loop, and this is the first gate whose level is over the limit
pub record RefusesDepth (statements : List Numbered) (mention : Mention) : Type 0 where
  pub named : AreNamed statements
  pub loop_free : IsLoopFree (described statements)
  pub deep : IsFirstGate statements (IsTooDeep (described statements)) mention

-- pins are counted only where the lines are within their limit
pub record RefusesPins (statements : List Numbered) (count : ℕ) : Type 0 where
  pub few_lines : ¬ MOST_LINES < length (definitions statements)
  pub pins : AreTooManyPins statements count

-- a name where it stands in a text
abbrev pub mention_of : ℕ → List ℕ → Mention
mention_of line name = record { line = line; name = name }

-- the statements describe no circuit, for this reason
abbrev pub Refuses : List Numbered → BuildFault → Type 0
Refuses statements (TooManyLines count) = AreTooManyLines statements count
Refuses statements (TooManyPins count) = RefusesPins statements count
Refuses statements (Twice line name) = RefusesTwice statements (mention_of line name)
Refuses statements (Undefined line name) = RefusesUndefined statements (mention_of line name)
Refuses statements (Loop line name) = RefusesLoop statements (mention_of line name)
Refuses statements (TooDeep line name) = RefusesDepth statements (mention_of line name)
Refuses statements (NoMemory _) = ⊥

-- an answer that is no netlist: a reason, or want of memory
abbrev pub MayRefuse : List Numbered → BuildFault → Type 0
MayRefuse statements (NoMemory _) = ⊤
MayRefuse statements fault = Refuses statements fault
