-- How far a call of `check` has come, in words that no other command speaks (this project's own).
use Rattle.std.specs.Prelude.{◌≡◌, ◌≤◌, ⊤, ℕ, List, [], ◌∷◌, ◌++◌, length, codes, Result, MatchResult}
use Rattle.pd_base.specs.declared.rules.Rules.{Rules}
use Rattle.pd_base.specs.declared.test.Test.{Test}
use Rattle.pd_io.specs.Seen.{FilesSeen}
use Rattle.netlist.specs.Circuit.{Circuit}
use Rattle.netlist.specs.Waves.{Delays}
use Rattle.runs.specs.declared.run.ListedPath.{ListedPath}
use Rattle.runs.specs.declared.run.Proof.{Proof}
use Rattle.runs.specs.declared.run.Run.{Run}
use Rattle.good_runs.specs.GoodRun.{IsGoodRun}
use Rattle.good_runs.specs.Promises.{AllKeepPromises}
use Rattle.claim_check.specs.Claims.{TellsOfRun}
use Rattle.claim_check.specs.declared.claim.Claim.TheVariants.{Fails}
use Rattle.claim_check.specs.declared.claim.Reason.{Reason}
use Rattle.bench_reader.specs.Circuits.{HasCircuit}
use Rattle.delay_annotation.specs.DelayFile.{HasDelays}
use Rattle.pd_base.specs.declared.limits.TheConstants.{MOST_BYTES}
use Rattle.run_files.specs.ProofsVersions.{version_number, IsVersionOf}
use Rattle.run_files.specs.declared.version.ProofsVersion.{ProofsVersion}
use Rattle.command_line.specs.Words.{RunCall}
use Rattle.calls.specs.declared.ending.Ending.{Ending}
use Rattle.calls.specs.declared.refusal.Refusal.{Refusal}
use Rattle.calls.specs.declared.role.Role.TheVariants as role
use Rattle.calls.specs.Passing.{HasPassed}
use Rattle.calls.specs.Preparing.{Prepares}
use Rattle.calls.specs.Stopping.{Stops}
use Rattle.calls.specs.Work.{Stage}
use Rattle.commands.specs.Inside.InputJudging.{FailsFor, FailsProofs, FailsReport, FailsTests}
use Rattle.commands.specs.InputRefusals.{malformed}
use Rattle.commands.specs.InputRequirements.{Requirement, short_stages}
use Rattle.commands.specs.LaunchModes.{HasLaunch}
use Rattle.commands.specs.RunTexts.{front_inputs, run_input_stages}
use Rattle.commands.specs.SpelledTests.{SpellsTests}
use Rattle.commands.specs.declared.check.reading.ClaimTexts.{ClaimTexts}
use Rattle.commands.specs.Check.{CheckRequirement, check_work, claim_reads, flawed, form_stages, good_products, stages_read}
use Rattle.commands.specs.ModeRules.{AreRulesOf}
use Rattle.commands.specs.SpelledRuns.{SpellsProofs, SpellsReport, SpellsRun}
use Rattle.commands.specs.declared.launch.Launch.{Launch}

-- the stages up to short texts, and up to the forms
abbrev pub stages_short : RunCall → List (Stage (Requirement CheckRequirement))
stages_short call = run_input_stages call ++ short_stages call.paths

abbrev pub stages_formed : RunCall → List (Stage (Requirement CheckRequirement))
stages_formed call = run_input_stages call ++ (short_stages call.paths ++ claim_reads call ++ form_stages call.mode)

-- the inputs that tell what a run is of, with those that spell it
abbrev pub all_inputs : List ℕ → List ℕ → List (List ℕ) → ClaimTexts → List (List ℕ)
all_inputs net delays scans texts =
    front_inputs net delays scans ++ texts.tests.items ∷ texts.report.items ∷ texts.proofs.items ∷ []

-- each of the three texts has no more bytes than are read
pub record AreWithinLimit (texts : ClaimTexts) : Type 0 where
  pub tests : length texts.tests.items ≤ MOST_BYTES
  pub report : length texts.report.items ≤ MOST_BYTES
  pub proofs : length texts.proofs.items ≤ MOST_BYTES

-- behind short texts, the three files were read, or the call ended there
abbrev pub ReadsClaims : RunCall → Result ClaimTexts Ending → FilesSeen → FilesSeen → Type 0
ReadsClaims call result old new =
    (first : FilesSeen) (net delays : List ℕ) (scans : List (List ℕ))
    → HasPassed (check_work call) (stages_short call) (front_inputs net delays scans) first old
    → MatchResult result
    (λ texts. HasPassed (check_work call) (stages_read call) (all_inputs net delays scans texts) first new)
    (λ ending. Stops (check_work call) ending first new)

-- no rules of the launch have the version of this number, and it is refused so
pub record HasNoRules (launch : Launch) (c : Circuit) (number : ℕ) (refusal : Refusal) : Type 0 where
  pub none_has : (rules : Rules) → AreRulesOf launch c rules → (version : ProofsVersion) → version_number version ≡ number
      → ¬ IsVersionOf rules version
  pub is : refusal ≡ malformed (codes "check") role.Proofs 1

-- there are no rules for it
abbrev pub FailsRules : Launch → Circuit → ℕ → Ending → Type 0
FailsRules launch c number ending = FailsFor (HasNoRules launch c number) ending

-- the text spells proofs of the circuit in the version of this number
pub record SpellsNumbered (c : Circuit) (text : List ℕ) (number : ℕ) (proofs : List Proof) : Type 0 where
  pub version : ProofsVersion
  pub is_number : number ≡ version_number version
  pub spells : SpellsProofs c text version proofs

-- the texts spell no run of the circuit and the launch: the first of them that has not its form is refused, and last the version of the
-- proofs
pub data FailsToSpell (launch : Launch) (c : Circuit) (texts : ClaimTexts) (ending : Ending) : Type 0 where
  no_tests : FailsTests (codes "check") c texts.tests.items ending → FailsToSpell launch c texts ending
  no_report : (tests : List Test) → SpellsTests c texts.tests.items tests → FailsReport (codes "check") c texts.report.items ending
      → FailsToSpell launch c texts ending
  no_proofs : (tests : List Test) (paths : List ListedPath) → SpellsTests c texts.tests.items tests
      → SpellsReport c texts.report.items paths → FailsProofs (codes "check") c texts.proofs.items ending → FailsToSpell launch c texts ending
  no_rules : (tests : List Test) (paths : List ListedPath) (number : ℕ) (proofs : List Proof) → SpellsTests c texts.tests.items tests
      → SpellsReport c texts.report.items paths → SpellsNumbered c texts.proofs.items number proofs → FailsRules launch c number ending
      → FailsToSpell launch c texts ending

-- the three files were read and have their form, and they spell this run of the circuit and the launch
pub record HasSpelledRun (call : RunCall) (net delays : List ℕ) (scans : List (List ℕ)) (c : Circuit) (launch : Launch) (run : Run)
    (first new : FilesSeen) : Type 0 where
  pub texts : ClaimTexts
  pub passed : HasPassed (check_work call) (stages_formed call) (all_inputs net delays scans texts) first new
  pub spells : SpellsRun launch c texts.tests.items texts.report.items texts.proofs.items run

-- behind short texts, the three files spell this run of the circuit, or the call ended there
abbrev pub ReadsRun : RunCall → Circuit → Launch → Result Run Ending → FilesSeen → FilesSeen → Type 0
ReadsRun call c launch result old new =
    (first : FilesSeen) (net delays : List ℕ) (scans : List (List ℕ)) → HasCircuit net c → HasLaunch call.mode c scans launch
    → HasPassed (check_work call) (stages_short call) (front_inputs net delays scans) first old
    → MatchResult result (λ run. HasSpelledRun call net delays scans c launch run first new)
    (λ ending. Stops (check_work call) ending first new)

-- the run is good, and its verdicts keep their promises
pub record IsGoodAndKeeps (c : Circuit) (delays : Delays) (paths budget : ℕ) (run : Run) : Type 0 where
  pub good : IsGoodRun c delays paths budget run
  pub promises : AllKeepPromises c budget run

-- the run is refused for its first flaw
pub record IsFlawed (c : Circuit) (delays : Delays) (paths budget : ℕ) (run : Run) (refusal : Refusal) : Type 0 where
  pub item : ℕ
  pub flaw : Reason
  pub is_first : TellsOfRun c delays paths budget run (Fails item flaw)
  pub is : refusal ≡ flawed item flaw

-- there is no good run
abbrev pub FailsRun : Circuit → Delays → ℕ → ℕ → Run → Ending → Type 0
FailsRun c delays paths budget run ending = FailsFor (IsFlawed c delays paths budget run) ending

-- behind the inputs that tell what a run is of, which give this circuit, these delays and this launch, the word is due, or the call ended
-- there
abbrev pub JudgesClaims : RunCall → Circuit → Delays → Launch → Result ⊤ Ending → FilesSeen → FilesSeen → Type 0
JudgesClaims call c given launch result old new =
    (first : FilesSeen) (net delays : List ℕ) (scans : List (List ℕ)) → HasCircuit net c → HasDelays c delays given
    → HasLaunch call.mode c scans launch → HasPassed (check_work call) (run_input_stages call) (front_inputs net delays scans) first old
    → Prepares (λ (done : ⊤). good_products) (check_work call) result first new
