-- What holds of a call of `check`, beside what holds of every call (this project's own).
use Rattle.std.specs.Prelude.{◌≡◌, ◌≢◌, ◌≤◌, ◌↔◌, ℕ, List, [], ◌∷◌, All, length, Some, codes}
use Rattle.pd_base.specs.Memory.{out_of_memory}
use Rattle.pd_io.specs.Folder.{Folder, bytes_at}
use Rattle.pd_io.specs.Seen.{Outside}
use Rattle.pd_base.specs.declared.limits.TheConstants.{MOST_BYTES}
use Rattle.command_line.specs.Words.{RunCall}
use Rattle.calls.specs.declared.status.Status.{Status}
use Rattle.calls.specs.declared.status.Status.TheVariants as exit
use Rattle.calls.specs.Calls.{IsDoneOrNoMemory, NoneFailed}
use Rattle.calls.specs.Passing.{Pass}
use Rattle.commands.specs.Check.{SpellGoodRun, check_work, stages_read}
use Rattle.commands.specs.LaterCalls.{HaveKept, WasLeftByGen, run_names, scans_in}
use Rattle.commands.specs.ModeRules.{KeepsMode}
use Rattle.commands.specs.RunTexts.{RunTexts, inputs_of}
use Rattle.commands.specs.Sizes.{HasShortTexts}
use Rattle.commands.specs.declared.inputs.reading.TheConstants.{INPUT_LIMIT}

-- what check reads, as it stands in a folder
abbrev pub texts_in : RunCall → Folder → RunTexts
texts_in call now = record {
  net = bytes_at now.held call.net;
  delays = bytes_at now.held call.delays;
  scans = scans_in call now;
  tests = bytes_at now.held call.tests;
  report = bytes_at now.held call.report;
  proofs = bytes_at now.held call.proofs;
}

-- the files spell a good run of a circuit with its delays, each is within its limit, and the texts of so many paths are short
pub record HoldsGoodRun (call : RunCall) (now : Folder) : Type 0 where
  pub spell : SpellGoodRun call (texts_in call now)
  pub net_within : length (bytes_at now.held call.net) ≤ INPUT_LIMIT
  pub delays_within : length (bytes_at now.held call.delays) ≤ INPUT_LIMIT
  pub scans_within : All (λ scan. length scan ≤ INPUT_LIMIT) (scans_in call now)
  pub short : HasShortTexts call.paths spell.circuit
  pub tests_within : length (bytes_at now.held call.tests) ≤ MOST_BYTES
  pub report_within : length (bytes_at now.held call.report) ≤ MOST_BYTES
  pub proofs_within : length (bytes_at now.held call.proofs) ≤ MOST_BYTES

-- the files tell these texts, of which all is accepted that is required before the form of the claim files; nothing failed, and memory
-- sufficed
pub record ComesToClaims (call : RunCall) (texts : RunTexts) (status : Status) (old new : Outside) : Type 0 where
  pub folder : Folder
  pub told : old.files.folder ≡ Some folder
  pub read : Pass (check_work call) (Some folder) (stages_read call) [] (inputs_of texts)
  pub none_failed : NoneFailed old new
  pub enough : status ≢ exit.NoMemory out_of_memory

-- what holds of a call that these words ask for
pub record KeepsCheckLaws (words : List (List ℕ)) (call : RunCall) (status : Status) (old new : Outside) : Type 0 where
  -- a good run that the files hold is accepted, if nothing fails and memory suffices
  pub complete : (now : Folder) → HoldsGoodRun call now → old.files.folder ≡ Some now → NoneFailed old new → IsDoneOrNoMemory status
  -- a good run keeps the mode
  pub keeps_mode : (texts : RunTexts) (good : SpellGoodRun call texts) → KeepsMode good.launch good.circuit good.run
  -- status 0 comes exactly where the claim files spell a good run
  pub done_exactly : (texts : RunTexts) → ComesToClaims call texts status old new → (status ≡ exit.Done) ↔ SpellGoodRun call texts
  -- status 1 comes exactly where they spell none
  pub refused_exactly : (texts : RunTexts) → ComesToClaims call texts status old new
      → (status ≡ exit.Refused) ↔ (SpellGoodRun call texts → ⊥)
  -- where all names hold what gen left there for the same words, the run is good, if nothing fails and memory suffices
  pub behind_gen : (run : RunCall) (left later : Folder) (was : WasLeftByGen run left) → words ≡ codes "check" ∷ was.words
      → HaveKept (run_names run) left later → old.files.folder ≡ Some later → NoneFailed old new → IsDoneOrNoMemory status
