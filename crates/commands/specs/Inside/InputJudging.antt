-- What was found of an input, as the functions say it that read and judge inputs (this project's own).
use Rattle.std.specs.Prelude.{◌≡◌, ℕ, List, None, Some, Vec}
use Rattle.std.specs.declared.alloc.Global.{Global}
use Rattle.pd_base.specs.Memory.{out_of_memory}
use Rattle.pd_base.specs.declared.test.Test.{Test}
use Rattle.pd_io.specs.Seen.{FilesSeen}
use Rattle.netlist.specs.Circuit.{Circuit}
use Rattle.netlist.specs.Waves.{Delays as PinDelays}
use Rattle.rise_fall.specs.Waves.{RiseFallDelays}
use Rattle.bench_reader.specs.Circuits.{HasCircuit}
use Rattle.delay_annotation.specs.DelayFile.{HasDelays, HasRiseFall}
use Rattle.delay_annotation.specs.declared.setting.Columns.{Columns}
use Rattle.delay_annotation.specs.declared.setting.Columns.TheVariants as columns
use Rattle.pd_base.specs.declared.ids.LineId.{LineId}
use Rattle.scan_order.specs.ScanFile.{HasChains}
use Rattle.scan_order.specs.declared.scan_fault.ScanFault.{ScanFault}
use Rattle.calls.specs.declared.ending.Ending.{Ending}
use Rattle.calls.specs.declared.ending.Ending.TheVariants.{Refused, NoMemory}
use Rattle.calls.specs.declared.refusal.Refusal.{Refusal}
use Rattle.calls.specs.declared.role.Role.{Role}
use Rattle.calls.specs.declared.role.Role.TheVariants as role
use Rattle.calls.specs.Inputs.{FailsToRead, ReadsInput}
use Rattle.commands.specs.InputRefusals.{scan_ending, too_long}
use Rattle.commands.specs.InputRequirements.{LacksCircuit, HasNoChainsFor, HasNoDelaysFor, LacksForm, limit_of}
use Rattle.commands.specs.SpelledRuns.{IsMalformedProofs, IsMalformedReport}
use Rattle.commands.specs.SpelledTests.{IsMalformedTests, SpellsTests}

-- an input was read whole, within its limit
abbrev pub ReadsWithin : Role → List ℕ → Vec ℕ Global → FilesSeen → FilesSeen → Type 0
ReadsWithin input name text old new = ReadsInput (limit_of input) name (Some text) old new

-- it was not
pub data FailsWithin (input : Role) (name : List ℕ) (ending : Ending) (old new : FilesSeen) : Type 0 where
  unread : FailsToRead input name ending old new → FailsWithin input name ending old new
  -- it has more bytes than are read of it
  over_limit : ending ≡ Refused (too_long input) → ReadsInput (limit_of input) name None old new → FailsWithin input name ending old new

-- an input, or inputs together, give nothing
pub data FailsFor (Refuses : Refusal → Type 0) (ending : Ending) : Type 0 where
  -- they are refused
  refused : (refusal : Refusal) → ending ≡ Refused refusal → Refuses refusal → FailsFor Refuses ending
  -- memory ran out
  no_memory : ending ≡ NoMemory out_of_memory → FailsFor Refuses ending

-- there is no netlist
abbrev pub FailsNet : List ℕ → Ending → Type 0
FailsNet net ending = FailsFor (LacksCircuit net) ending

-- there are no delays in these columns
abbrev pub FailsDelays : Columns → Circuit → List ℕ → Ending → Type 0
FailsDelays columns c delays ending = FailsFor (HasNoDelaysFor c columns delays) ending

-- there are no chains
abbrev pub FailsChains : Circuit → List ℕ → Ending → Type 0
FailsChains c scan ending = FailsFor (HasNoChainsFor c scan) ending

-- a call ends so for a fault of SCAN; memory may run out while it is told, too
pub data EndsForScan (c : Circuit) (fault : ScanFault) (ending : Ending) : Type 0 where
  scan_told : ending ≡ scan_ending c fault → EndsForScan c fault ending
  scan_untold : ending ≡ NoMemory out_of_memory → EndsForScan c fault ending

-- there are no tests, as the command of this word says
abbrev pub FailsTests : List ℕ → Circuit → List ℕ → Ending → Type 0
FailsTests command c tests ending = FailsFor (LacksForm command role.Tests (IsMalformedTests c tests)) ending

-- there is no report
abbrev pub FailsReport : List ℕ → Circuit → List ℕ → Ending → Type 0
FailsReport command c report ending = FailsFor (LacksForm command role.Report (IsMalformedReport c report)) ending

-- there are no proofs
abbrev pub FailsProofs : List ℕ → Circuit → List ℕ → Ending → Type 0
FailsProofs command c proofs ending = FailsFor (LacksForm command role.Proofs (IsMalformedProofs c proofs)) ending

-- an input was read whole, within its limit, and its text is one of which this holds
pub record GivesFrom (input : Role) (name : List ℕ) (Holds : List ℕ → Type 0) (old new : FilesSeen) : Type 0 where
  pub text : Vec ℕ Global
  pub read : ReadsWithin input name text old new
  pub holds : Holds text.items

-- it was not read whole, or its text gives nothing
pub data FailsFrom (input : Role) (name : List ℕ) (Fails : List ℕ → Ending → Type 0) (ending : Ending) (old new : FilesSeen)
    : Type 0 where
  not_read : FailsWithin input name ending old new → FailsFrom input name Fails ending old new
  gives_none : (text : Vec ℕ Global) → ReadsWithin input name text old new → Fails text.items ending
      → FailsFrom input name Fails ending old new

-- NET was read, and its text has this circuit
abbrev pub GivesNet : List ℕ → Circuit → FilesSeen → FilesSeen → Type 0
GivesNet name c old new = GivesFrom role.Net name (λ text. HasCircuit text c) old new

-- NET gives no circuit
abbrev pub FailsToGiveNet : List ℕ → Ending → FilesSeen → FilesSeen → Type 0
FailsToGiveNet name ending old new = FailsFrom role.Net name FailsNet ending old new

-- DELAYS was read, and its text gives these delays to the pins of the circuit
abbrev pub GivesDelays : List ℕ → Circuit → PinDelays → FilesSeen → FilesSeen → Type 0
GivesDelays name c delays old new = GivesFrom role.Delays name (λ text. HasDelays c text delays) old new

-- it gives a rise and a fall delay to each
abbrev pub GivesRiseFall : List ℕ → Circuit → RiseFallDelays → FilesSeen → FilesSeen → Type 0
GivesRiseFall name c delays old new = GivesFrom role.Delays name (λ text. HasRiseFall c text delays) old new

-- DELAYS gives it none in these columns
abbrev pub FailsToGive : Columns → List ℕ → Circuit → Ending → FilesSeen → FilesSeen → Type 0
FailsToGive columns name c ending old new = FailsFrom role.Delays name (FailsDelays columns c) ending old new

-- it gives it none, one for each pin
abbrev pub FailsToGiveDelays : List ℕ → Circuit → Ending → FilesSeen → FilesSeen → Type 0
FailsToGiveDelays name c ending old new = FailsToGive columns.Delay name c ending old new

-- nor a rise and a fall delay
abbrev pub FailsToGiveRiseFall : List ℕ → Circuit → Ending → FilesSeen → FilesSeen → Type 0
FailsToGiveRiseFall name c ending old new = FailsToGive columns.RiseAndFall name c ending old new

-- SCAN was read, and its text has these chains of the circuit
abbrev pub GivesChains : List ℕ → Circuit → List (List LineId) → FilesSeen → FilesSeen → Type 0
GivesChains name c chains old new = GivesFrom role.Scan name (λ text. HasChains c text chains) old new

-- SCAN gives none of it
abbrev pub FailsToGiveChains : List ℕ → Circuit → Ending → FilesSeen → FilesSeen → Type 0
FailsToGiveChains name c ending old new = FailsFrom role.Scan name (FailsChains c) ending old new

-- TESTS was read, and its text spells these tests of the circuit
abbrev pub GivesTests : List ℕ → Circuit → List Test → FilesSeen → FilesSeen → Type 0
GivesTests name c tests old new = GivesFrom role.Tests name (λ text. SpellsTests c text tests) old new

-- TESTS gives it none
abbrev pub FailsToGiveTests : List ℕ → List ℕ → Circuit → Ending → FilesSeen → FilesSeen → Type 0
FailsToGiveTests command name c ending old new = FailsFrom role.Tests name (FailsTests command c) ending old new
