-- What was found of the pairs of tests, as the functions of `scan` say it (this project's own).
use Rattle.std.specs.Prelude.{◌≡◌, ℕ, ◌<◌, List, length, All}
use Rattle.pd_base.specs.Pair.{Vectors}
use Rattle.pd_base.specs.declared.ids.LineId.{LineId}
use Rattle.pd_base.specs.declared.test.Test.{Test}
use Rattle.calls.specs.declared.refusal.Refusal.{Refusal}
use Rattle.scan_load.specs.Shifting.{ShiftsOn}
use Rattle.commands.specs.Grading.{IsFirstWithout}
use Rattle.commands.specs.Scan.{unlaunched_pair}

-- the first vector has a bit for each flip-flop of each chain
abbrev pub HasBitsFor : List (List LineId) → Vectors → Type 0
HasBitsFor chains pair = All (λ chain. All (λ line. line.0 < length pair.first) chain) chains

-- the bits of the pair move on in each of the chains
abbrev pub ShiftsInAll : List (List LineId) → Test → Type 0
ShiftsInAll chains test = All (λ chain. ShiftsOn chain test.pair) chains

-- these tests are refused for the first whose bits do not
pub record HaveUnlaunchedPair (chains : List (List LineId)) (tests : List Test) (refusal : Refusal) : Type 0 where
  pub number : ℕ
  pub first : IsFirstWithout (ShiftsInAll chains) tests number
  pub is : refusal ≡ unlaunched_pair number
