-- The command `check`: its stages, what it refuses, and when it says that three files are good. Where a call ends with status 0, they
-- spell one run, which is good for the first paths and the budget that are asked for, under the rules of the mode that the proofs tell; and
-- what its verdicts promise is said in Promises.antt of good_runs (this project's own).
use Rattle.std.specs.Prelude.{◌≡◌, ℕ, ◌+◌, List, [], ◌∷◌, ◌++◌, codes, decimal}
use Rattle.netlist.specs.Circuit.{Circuit}
use Rattle.netlist.specs.Waves.{Delays}
use Rattle.runs.specs.declared.run.Run.{Run}
use Rattle.good_runs.specs.GoodRun.{IsGoodRun}
use Rattle.good_runs.specs.Promises.{AllKeepPromises}
use Rattle.claim_check.specs.Claims.{TellsOfRun}
use Rattle.claim_check.specs.declared.claim.Claim.TheVariants.{Fails}
use Rattle.claim_check.specs.declared.claim.Reason.{Reason}
use Rattle.claim_check.specs.declared.claim.Reason.TheVariants as flaw
use Rattle.bench_reader.specs.Circuits.{HasCircuit}
use Rattle.delay_annotation.specs.DelayFile.{HasDelays}
use Rattle.text_pieces.specs.Tokens.{line}
use Rattle.command_line.specs.Words.{RunCall}
use Rattle.command_line.specs.Modes.{RunMode}
use Rattle.calls.specs.CauseAndText.{refusal_for}
use Rattle.calls.specs.declared.cause.Cause.TheVariants as cause
use Rattle.calls.specs.declared.role.Role.TheVariants as role
use Rattle.calls.specs.declared.refusal.Refusal.{Refusal}
use Rattle.calls.specs.Work.{Work, Stage, Require, Products}
use Rattle.commands.specs.InputRefusals.{malformed}
use Rattle.commands.specs.InputRequirements.{InputCommand, Requirement, WellFormed, own, read_stages, short_stages, work_on_inputs}
use Rattle.commands.specs.LaunchModes.{HasLaunch}
use Rattle.commands.specs.RunTexts.{RunTexts, claims_place, run_input_stages, run_texts_of}
use Rattle.commands.specs.SpelledRuns.{HasProofsOfOtherMode, SpellsRun}
use Rattle.commands.specs.declared.launch.Launch.{Launch}

-- what check requires beside what is required alike
pub data CheckRequirement : Type 0 where
  -- the proofs are of a version that rules of the mode have
  VersionOfMode : CheckRequirement
  -- the run that the claim files spell is good
  GoodRun : CheckRequirement

-- TESTS, REPORT and PROOFS are read
abbrev pub claim_reads : RunCall → List (Stage (Requirement CheckRequirement))
claim_reads call = read_stages role.Tests call.tests ++ read_stages role.Report call.report ++ read_stages role.Proofs call.proofs

-- they have to have their form, and last the proofs a version of the mode
abbrev pub form_stages : RunMode → List (Stage (Requirement CheckRequirement))
form_stages mode =
    Require (WellFormed role.Tests (claims_place mode)) ∷ Require (WellFormed role.Report (claims_place mode + 1))
    ∷ Require (WellFormed role.Proofs (claims_place mode + 2)) ∷ Require (own VersionOfMode) ∷ []

-- what a run is of is read and judged, and texts for so many paths have to be short; then the three files are read
abbrev pub stages_read : RunCall → List (Stage (Requirement CheckRequirement))
stages_read call = run_input_stages call ++ (short_stages call.paths ++ claim_reads call)

-- only then they have to have their form, and their run has to be good
abbrev pub check_stages : RunCall → List (Stage (Requirement CheckRequirement))
check_stages call = stages_read call ++ (form_stages call.mode ++ Require (own GoodRun) ∷ [])

-- NET has this circuit, DELAYS gives these delays to its pins, so pairs are launched, and the claim files spell this run of them
pub record SpellAll (mode : RunMode) (texts : RunTexts) (c : Circuit) (delays : Delays) (launch : Launch) (run : Run) : Type 0 where
  pub has : HasCircuit texts.net c
  pub has_delays : HasDelays c texts.delays delays
  pub has_launch : HasLaunch mode c texts.scans launch
  pub spells : SpellsRun launch c texts.tests texts.report texts.proofs run

-- the proofs of NET's circuit are in a version that no rules of the mode have: it stands on the first line, which is refused
pub record SpellOtherVersion (mode : RunMode) (texts : RunTexts) (refusal : Refusal) : Type 0 where
  pub other : HasProofsOfOtherMode mode texts.net texts.scans texts.proofs
  pub is : refusal ≡ malformed (codes "check") role.Proofs 1

-- the item at which a run has a flaw
abbrev pub flaw_item : Reason → List ℕ
flaw_item flaw.WrongCount = codes "count "
flaw_item flaw.WrongPath = codes "path "
flaw_item flaw.WrongLength = codes "path "
flaw_item flaw.BadRefutation = codes "proof "
flaw_item flaw.BadSpent = codes "proof "
flaw_item flaw.NotShared = codes "fault "
flaw_item flaw.BadTest = codes "fault "
flaw_item flaw.WrongExpected = codes "fault "

-- what the flaw is
abbrev pub flaw_word : Reason → List ℕ
flaw_word flaw.WrongCount = codes " WrongCount"
flaw_word flaw.WrongPath = codes " WrongPath"
flaw_word flaw.WrongLength = codes " WrongLength"
flaw_word flaw.BadRefutation = codes " BadRefutation"
flaw_word flaw.BadSpent = codes " BadSpent"
flaw_word flaw.NotShared = codes " NotShared"
flaw_word flaw.BadTest = codes " BadTest"
flaw_word flaw.WrongExpected = codes " WrongExpected"

-- the run has this flaw at the item of this number
abbrev pub flawed : ℕ → Reason → Refusal
flawed item reason = refusal_for cause.Claims (codes "check: " ++ flaw_item reason ++ decimal item ++ flaw_word reason)

-- in the mode the texts spell a run that is not good for so many paths and this budget, which is refused for its first flaw
pub record SpellFlawedRun (call : RunCall) (texts : RunTexts) (refusal : Refusal) : Type 0 where
  pub circuit : Circuit
  pub delays : Delays
  pub launch : Launch
  pub run : Run
  pub spell : SpellAll call.mode texts circuit delays launch run
  pub item : ℕ
  pub flaw : Reason
  pub is_first : TellsOfRun circuit delays call.paths call.budget run (Fails item flaw)
  pub is : refusal ≡ flawed item flaw

-- what check refuses by a requirement of its own
abbrev pub RefusesClaims : RunCall → CheckRequirement → List (List ℕ) → Refusal → Type 0
RefusesClaims call VersionOfMode inputs refusal = SpellOtherVersion call.mode (run_texts_of call.mode inputs) refusal
RefusesClaims call GoodRun inputs refusal = SpellFlawedRun call (run_texts_of call.mode inputs) refusal

-- in the mode the texts spell a run that is good for so many paths and this budget, and its verdicts keep their promises
pub record SpellGoodRun (call : RunCall) (texts : RunTexts) : Type 0 where
  pub circuit : Circuit
  pub delays : Delays
  pub launch : Launch
  pub run : Run
  pub spell : SpellAll call.mode texts circuit delays launch run
  pub good : IsGoodRun circuit delays call.paths call.budget run
  pub promises : AllKeepPromises circuit call.budget run

-- no file, and on out one word
abbrev pub good_products : Products
good_products = record { files = []; out = line (codes "good") }

-- it is said of texts that spell a good run
pub record SaysGood (call : RunCall) (texts : RunTexts) (products : Products) : Type 0 where
  pub spell : SpellGoodRun call texts
  pub says : products ≡ good_products

-- what check gives for its inputs
abbrev pub GivesCheck : RunCall → List (List ℕ) → Products → Type 0
GivesCheck call inputs products = SaysGood call (run_texts_of call.mode inputs) products

-- the command with its names and numbers
abbrev pub check_command : RunCall → InputCommand
check_command call = record {
  Own = CheckRequirement;
  word = codes "check";
  stages = check_stages call;
  RefusesOwn = RefusesClaims call;
  Gives = GivesCheck call;
}

-- its work
abbrev pub check_work : RunCall → Work
check_work call = work_on_inputs (check_command call)
