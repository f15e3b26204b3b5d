-- What commands require alike of the files that they read, how each requirement refuses, and the stages of which a command puts its own
-- together (this project's own). A command that reads NET first is an `InputCommand`.
use Rattle.std.specs.Prelude.{◌≡◌, ℕ, ◌+◌, ◌<◌, List, [], ◌∷◌, ◌++◌, length, slice_index_or}
use Rattle.netlist.specs.Circuit.{Circuit}
use Rattle.bench_reader.specs.Circuits.{HasCircuit}
use Rattle.bench_reader.specs.Refusals.{RefusesText}
use Rattle.bench_reader.specs.declared.fault.BenchFault.{BenchFault}
use Rattle.delay_annotation.specs.DelayFile.{RefusesFile}
use Rattle.delay_annotation.specs.declared.fault.DelayFault.{DelayFault}
use Rattle.delay_annotation.specs.declared.setting.Columns.{Columns}
use Rattle.delay_annotation.specs.declared.setting.Columns.TheVariants as columns
use Rattle.scan_order.specs.ScanRefusals.{RefusesScan}
use Rattle.scan_order.specs.declared.scan_fault.ScanFault.{ScanFault}
use Rattle.pd_base.specs.declared.limits.TheConstants.{MOST_BYTES}
use Rattle.calls.specs.declared.ending.Ending.TheVariants.{Refused}
use Rattle.calls.specs.declared.refusal.Refusal.{Refusal}
use Rattle.calls.specs.declared.role.Role.{Role}
use Rattle.calls.specs.declared.role.Role.TheVariants as role
use Rattle.calls.specs.Work.{Work, Products, Stage, Read, Require}
use Rattle.commands.specs.Grading.{RefusesExpected, RefusesGrades, RefusesPaths}
use Rattle.commands.specs.InputRefusals.{delays_ending, long_path_text, long_test_text, malformed, netlist_ending, scan_ending, too_long}
use Rattle.commands.specs.Sizes.{path_text_product, test_text_product}
use Rattle.commands.specs.SpelledTests.{HasMalformedTests}
use Rattle.commands.specs.SpelledRuns.{HasMalformedProofs, HasMalformedReport}
use Rattle.commands.specs.declared.inputs.reading.TheConstants.{INPUT_LIMIT}
use Rattle.commands.specs.declared.inputs.sizes.TheConstants.{MOST_PATH_TEXT, MOST_TEST_TEXT}

-- what is required; `Own` are the requirements that one command alone has
pub data Requirement (Own : Type 0) : Type 0 where
  -- the input of this role, which was read last, has no more bytes than are read of it
  WithinLimit : Role → Requirement Own
  -- NET, which was read first, has a circuit
  SpellsCircuit : Requirement Own
  -- DELAYS, which was read next, gives delays to its pins: in these columns, one for each pin, or one for a rise and one for a fall
  SpellsDelays : Columns → Requirement Own
  -- SCAN, before which so many inputs were read, gives the scan chains of NET's circuit
  SpellsChains : ℕ → Requirement Own
  -- the product that bounds the texts of so many paths is within its limit
  ShortPathText : ℕ → Requirement Own
  -- so is the one that bounds the texts of so many tests
  ShortTestText : ℕ → Requirement Own
  -- each line of the claim file of this role, before which so many inputs were read, has its form
  WellFormed : Role → ℕ → Requirement Own
  -- of NET, TESTS and REPORT, which were read first, in this order: each listed path is a path
  ListsPaths : Requirement Own
  -- each test expects the values of the observed lines
  ExpectRight : Requirement Own
  -- and tests times faults is within its limit
  FewGrades : Requirement Own
  -- one of the command's own
  own : Own → Requirement Own

-- how many bytes an input of a role may have; no command reads OUT
abbrev pub limit_of : Role → ℕ
limit_of role.Net = INPUT_LIMIT
limit_of role.Delays = INPUT_LIMIT
limit_of role.Scan = INPUT_LIMIT
limit_of role.Tests = MOST_BYTES
limit_of role.Report = MOST_BYTES
limit_of role.Proofs = MOST_BYTES
limit_of role.Log = INPUT_LIMIT
limit_of role.Out = INPUT_LIMIT

-- the input before which so many were read
abbrev pub input_at : List (List ℕ) → ℕ → List ℕ
input_at inputs place = slice_index_or inputs place []

-- the last input
abbrev pub last_input : List (List ℕ) → List ℕ
last_input [] = []
last_input (input ∷ []) = input
last_input (input ∷ more) = last_input more

-- the input of this role has more bytes than are read of it, and is refused so
pub record IsOverLimit (input : Role) (text : List ℕ) (refusal : Refusal) : Type 0 where
  pub over : limit_of input < length text
  pub is : refusal ≡ too_long input

-- the text has no circuit, and is refused so
pub record LacksCircuit (net : List ℕ) (refusal : Refusal) : Type 0 where
  pub fault : BenchFault
  pub refused : RefusesText net fault
  pub is : netlist_ending fault ≡ Refused refusal

-- the text gives no delays in these columns to the pins of this circuit, and is refused so
pub record HasNoDelaysFor (c : Circuit) (columns : Columns) (text : List ℕ) (refusal : Refusal) : Type 0 where
  pub fault : DelayFault
  pub refused : RefusesFile c columns text fault
  pub is : delays_ending fault ≡ Refused refusal

-- NET has a circuit, to whose pins DELAYS gives no delays
pub record HasNoDelays (columns : Columns) (net delays : List ℕ) (refusal : Refusal) : Type 0 where
  pub circuit : Circuit
  pub has : HasCircuit net circuit
  pub none : HasNoDelaysFor circuit columns delays refusal

-- the text gives no scan chains of this circuit, and is refused so
pub record HasNoChainsFor (c : Circuit) (text : List ℕ) (refusal : Refusal) : Type 0 where
  pub fault : ScanFault
  pub refused : RefusesScan c text fault
  pub is : scan_ending c fault ≡ Refused refusal

-- NET has a circuit, of which SCAN gives no chains
pub record HasNoChains (net scan : List ℕ) (refusal : Refusal) : Type 0 where
  pub circuit : Circuit
  pub has : HasCircuit net circuit
  pub none : HasNoChainsFor circuit scan refusal

-- NET has a circuit, whose product is over its limit, which is refused so
pub record IsOverProduct (net : List ℕ) (product_of : Circuit → ℕ) (limit : ℕ) (refused_so : ℕ → Refusal) (refusal : Refusal) : Type 0 where
  pub circuit : Circuit
  pub has : HasCircuit net circuit
  pub over : limit < product_of circuit
  pub is : refusal ≡ refused_so (product_of circuit)

-- a line of a claim file of this role lacks its form, and is refused so
pub record LacksForm (command : List ℕ) (input : Role) (IsFirst : ℕ → Type 0) (refusal : Refusal) : Type 0 where
  pub place : ℕ
  pub first : IsFirst place
  pub is : refusal ≡ malformed command input place

-- NET has a circuit of which this text is no claim file of this role, and this line of it is the first that lacks its form
abbrev pub HasMalformed : Role → List ℕ → List ℕ → ℕ → Type 0
HasMalformed role.Tests net text place = HasMalformedTests net text place
HasMalformed role.Report net text place = HasMalformedReport net text place
HasMalformed role.Proofs net text place = HasMalformedProofs net text place
HasMalformed input net text place = ⊥

-- a command that reads NET first: its word, its stages, what its own requirements refuse, and what it gives
pub record InputCommand : Type 1 where
  pub Own : Type 0
  pub word : List ℕ
  pub stages : List (Stage (Requirement Own))
  pub RefusesOwn : Own → List (List ℕ) → Refusal → Type 0
  pub Gives : List (List ℕ) → Products → Type 0

-- how a requirement of such a command refuses the inputs that were read so far
abbrev pub RefusesInputs : (command : InputCommand) → Requirement command.Own → List (List ℕ) → Refusal → Type 0
RefusesInputs command (WithinLimit input) inputs refusal = IsOverLimit input (last_input inputs) refusal
RefusesInputs command SpellsCircuit inputs refusal = LacksCircuit (input_at inputs 0) refusal
RefusesInputs command (SpellsDelays columns) inputs refusal = HasNoDelays columns (input_at inputs 0) (input_at inputs 1) refusal
RefusesInputs command (SpellsChains place) inputs refusal = HasNoChains (input_at inputs 0) (input_at inputs place) refusal
RefusesInputs command (ShortPathText paths) inputs refusal =
    IsOverProduct (input_at inputs 0) (path_text_product paths) MOST_PATH_TEXT long_path_text refusal
RefusesInputs command (ShortTestText paths) inputs refusal =
    IsOverProduct (input_at inputs 0) (test_text_product paths) MOST_TEST_TEXT long_test_text refusal
RefusesInputs command (WellFormed input place) inputs refusal =
    LacksForm command.word input (HasMalformed input (input_at inputs 0) (input_at inputs place)) refusal
RefusesInputs command ListsPaths inputs refusal = RefusesPaths command.word (input_at inputs 0) (input_at inputs 2) refusal
RefusesInputs command ExpectRight inputs refusal = RefusesExpected command.word (input_at inputs 0) (input_at inputs 1) refusal
RefusesInputs command FewGrades inputs refusal = RefusesGrades (input_at inputs 0) (input_at inputs 1) (input_at inputs 2) refusal
RefusesInputs command (own requirement) inputs refusal = command.RefusesOwn requirement inputs refusal

-- its work
abbrev pub work_on_inputs : InputCommand → Work
work_on_inputs command = record {
  Requirement = Requirement command.Own;
  stages = command.stages;
  Refuses = RefusesInputs command;
  Gives = command.Gives;
}

-- no requirement of a command's own
abbrev pub RefusesNoMore : ⊥ → List (List ℕ) → Refusal → Type 0
RefusesNoMore none inputs refusal = ⊥

-- a file of this role and name is read, within its limit
abbrev pub read_stages : {Own : Type 0} → Role → List ℕ → List (Stage (Requirement Own))
read_stages input name = Read input name ∷ Require (WithinLimit input) ∷ []

-- NET is read, and has to have a circuit
abbrev pub net_stages : {Own : Type 0} → List ℕ → List (Stage (Requirement Own))
net_stages net = read_stages role.Net net ++ Require SpellsCircuit ∷ []

-- then DELAYS is read, and has to give delays in these columns
abbrev pub delays_stages : {Own : Type 0} → Columns → List ℕ → List ℕ → List (Stage (Requirement Own))
delays_stages columns net delays = net_stages net ++ read_stages role.Delays delays ++ Require (SpellsDelays columns) ∷ []

-- it has to give one delay for each pin
abbrev pub input_stages : {Own : Type 0} → List ℕ → List ℕ → List (Stage (Requirement Own))
input_stages net delays = delays_stages columns.Delay net delays

-- SCAN is read behind so many inputs, and has to give chains
abbrev pub scan_stages : {Own : Type 0} → ℕ → List ℕ → List (Stage (Requirement Own))
scan_stages place scan = read_stages role.Scan scan ++ Require (SpellsChains place) ∷ []

-- TESTS and REPORT are read, in this order
abbrev pub tests_and_report_stages : {Own : Type 0} → List ℕ → List ℕ → List (Stage (Requirement Own))
tests_and_report_stages tests report = read_stages role.Tests tests ++ read_stages role.Report report

-- then they have to have their form, where TESTS was read behind so many inputs, and REPORT next
abbrev pub tests_and_report_forms : {Own : Type 0} → ℕ → List (Stage (Requirement Own))
tests_and_report_forms place = Require (WellFormed role.Tests place) ∷ Require (WellFormed role.Report (place + 1)) ∷ []

-- of TESTS and REPORT, read behind NET alone, both have to have their form; then their tests can be graded against their listed paths
abbrev pub graded_stages : {Own : Type 0} → List (Stage (Requirement Own))
graded_stages = tests_and_report_forms 1 ++ Require ListsPaths ∷ Require ExpectRight ∷ Require FewGrades ∷ []

-- texts of so many paths, and of so many tests, have to be short
abbrev pub short_stages : {Own : Type 0} → ℕ → List (Stage (Requirement Own))
short_stages paths = Require (ShortPathText paths) ∷ Require (ShortTestText paths) ∷ []
