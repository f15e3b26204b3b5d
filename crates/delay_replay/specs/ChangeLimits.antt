-- How many changes the lines have, in rank order, and the first line at which there are too many (the limits are this
-- project's own).
use Rattle.std.specs.Prelude.{◌≡◌, ⊤, ℕ, ◌<◌, List, [], ◌∷◌, ◌++◌, length, map, sum_by}
use Rattle.std.specs.List.{AllZip, range_with_len}
use Rattle.pd_base.specs.declared.ids.GateId.{GateId}
use Rattle.pd_base.specs.Pair.{Vectors}
use Rattle.netlist.specs.Circuit.{Circuit, source_count, gate_line}
use Rattle.netlist.specs.Levels.{IsRankOrder}
use Rattle.netlist.specs.Waves.{Delays, Wave, wave_of}
use Rattle.delay_replay.specs.declared.gate.TheConstants.{MOST_CHANGES}
use Rattle.delay_replay.specs.Changes.{Changes, AreChangesOf, ChangesOver}
use Rattle.delay_replay.specs.declared.line_waves.TheConstants.{MOST_CHANGES_OF_ALL}
use Rattle.delay_replay.specs.declared.line_waves.ReplayFault.{ReplayFault}
use Rattle.delay_replay.specs.declared.line_waves.ReplayFault.TheVariants.{TooManyChanges, NoMemory}

-- the lines of all sources by number, and then those of these gates
abbrev pub ranked_lines : Circuit → List GateId → List ℕ
ranked_lines c gates = range_with_len 0 (source_count c) ++ map (λ gate. gate_line c gate.0) gates

-- the waves of these lines change so many times together
pub record HaveChanges (wave : ℕ → Wave) (lines : List ℕ) (total : ℕ) : Type 0 where
  pub changes : List Changes
  pub each : AllZip (λ line own. AreChangesOf (wave line) own) lines changes
  pub sum : sum_by (λ own. length own.times) changes ≡ total

-- behind these lines a line is one too much: it has too many changes by itself, or together with them
pub data IsTooMuch (wave : ℕ → Wave) (earlier : List ℕ) (line : ℕ) : Type 0 where
  by_itself : ChangesOver (wave line) MOST_CHANGES → IsTooMuch wave earlier line
  together : (total : ℕ) → HaveChanges wave (earlier ++ line ∷ []) total → MOST_CHANGES_OF_ALL < total
      → IsTooMuch wave earlier line

-- none of these lines is too much behind those before it
abbrev pub NoneTooMuch : (ℕ → Wave) → List ℕ → Type 0
NoneTooMuch wave lines =
    (earlier : List ℕ) (line : ℕ) (later : List ℕ) → earlier ++ line ∷ later ≡ lines → ¬ IsTooMuch wave earlier line

-- in rank order no line of the circuit is too much, where the lines have these waves
pub record HasFewOf (c : Circuit) (wave : ℕ → Wave) : Type 0 where
  pub order : List GateId
  pub ranked : IsRankOrder c order
  pub none : NoneTooMuch wave (ranked_lines c order)

-- this is the first line of the circuit, in rank order, that is too much
pub record IsFirstOf (c : Circuit) (wave : ℕ → Wave) (line : ℕ) : Type 0 where
  pub order : List GateId
  pub ranked : IsRankOrder c order
  pub earlier : List ℕ
  pub later : List ℕ
  pub place : earlier ++ line ∷ later ≡ ranked_lines c order
  pub none_before : NoneTooMuch wave earlier
  pub too_much : IsTooMuch wave earlier line

-- a replay is refused only at that line, or for want of memory
abbrev pub RefusesWaves : Circuit → (ℕ → Wave) → ReplayFault → Type 0
RefusesWaves c wave (TooManyChanges line) = IsFirstOf c wave line.0
RefusesWaves c wave (NoMemory _) = ⊤

-- the same, where each pin has one delay
abbrev pub HasFewChanges : Circuit → Vectors → Delays → Type 0
HasFewChanges c pair delays = HasFewOf c (wave_of c pair delays)

abbrev pub IsFirstTooMuch : Circuit → Vectors → Delays → ℕ → Type 0
IsFirstTooMuch c pair delays = IsFirstOf c (wave_of c pair delays)

abbrev pub RefusesReplay : Circuit → Vectors → Delays → ReplayFault → Type 0
RefusesReplay c pair delays = RefusesWaves c (wave_of c pair delays)
