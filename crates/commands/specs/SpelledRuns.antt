-- Which run three texts spell, or which line of which of them is malformed (this project's own).
use Rattle.std.specs.Prelude.{◌≡◌, ℕ, List}
use Rattle.pd_base.specs.declared.rules.Rules.{Rules}
use Rattle.pd_base.specs.declared.test.Test.{Test}
use Rattle.netlist.specs.Circuit.{Circuit}
use Rattle.bench_reader.specs.Circuits.{HasCircuit}
use Rattle.runs.specs.declared.run.ListedPath.{ListedPath}
use Rattle.runs.specs.declared.run.Proof.{Proof}
use Rattle.runs.specs.declared.run.Run.{Run}
use Rattle.text_pieces.specs.LineFiles.{IsFirstBadLine}
use Rattle.run_files.specs.ProofsReading.{AreSpelledProofs, IsFirstBadProofLine}
use Rattle.run_files.specs.ProofsText.{proofs_text}
use Rattle.run_files.specs.ProofsVersions.{IsVersionOf}
use Rattle.run_files.specs.ReportForm.{IsSpelledReport, report_form, report_headings, report_start}
use Rattle.run_files.specs.ReportText.{report_text}
use Rattle.run_files.specs.declared.version.ProofsVersion.{ProofsVersion}
use Rattle.command_line.specs.Modes.{RunMode}
use Rattle.commands.specs.ModeRules.{AreRulesOf}
use Rattle.commands.specs.LaunchModes.{HasLaunch}
use Rattle.commands.specs.SpelledTests.{SpellsTests}
use Rattle.commands.specs.declared.launch.Launch.{Launch}

-- the text is the report of these paths, which a report of the circuit may list
pub record SpellsReport (c : Circuit) (text : List ℕ) (paths : List ListedPath) : Type 0 where
  pub lawful : IsSpelledReport c paths
  pub is_text : text ≡ report_text c paths

-- the text is the proofs file of these proofs, which a proofs file of the circuit may list, in this version
pub record SpellsProofs (c : Circuit) (text : List ℕ) (version : ProofsVersion) (proofs : List Proof) : Type 0 where
  pub lawful : AreSpelledProofs c version proofs
  pub is_text : text ≡ proofs_text version proofs

-- the text spells these proofs in a version of these rules: where trees split at sources alone there may be two
pub record SpellsProofsOf (c : Circuit) (text : List ℕ) (rules : Rules) (proofs : List Proof) : Type 0 where
  pub version : ProofsVersion
  pub of_rules : IsVersionOf rules version
  pub spells : SpellsProofs c text version proofs

-- the two texts spell these tests and these listed paths of the circuit
pub record SpellTestsAndPaths (c : Circuit) (tests report : List ℕ) (listed : List Test) (paths : List ListedPath) : Type 0 where
  pub tests_are : SpellsTests c tests listed
  pub report_is : SpellsReport c report paths

-- the three texts spell this run of the circuit and the launch: its rules are those of the launch that have the version of the proofs
pub record SpellsRun (launch : Launch) (c : Circuit) (tests report proofs : List ℕ) (run : Run) : Type 0 where
  pub tests_are : SpellsTests c tests run.tests
  pub report_is : SpellsReport c report run.paths
  pub of_mode : AreRulesOf launch c run.rules
  pub proofs_are : SpellsProofsOf c proofs run.rules run.proofs

-- a text is the report of no such paths, and its line of this number is the first that lacks its form
pub record IsMalformedReport (c : Circuit) (text : List ℕ) (line : ℕ) : Type 0 where
  pub none : (paths : List ListedPath) → ¬ SpellsReport c text paths
  pub first : IsFirstBadLine (report_form c) report_start report_headings text line

-- a text is the proofs file of no such proofs, in any version, and its line of this number is the first that lacks its form
pub record IsMalformedProofs (c : Circuit) (text : List ℕ) (line : ℕ) : Type 0 where
  pub none : (version : ProofsVersion) (proofs : List Proof) → ¬ SpellsProofs c text version proofs
  pub first : IsFirstBadProofLine c text line

-- NET has a circuit, of which this text spells no report, and so its line of this number is told
pub record HasMalformedReport (net text : List ℕ) (line : ℕ) : Type 0 where
  pub circuit : Circuit
  pub has : HasCircuit net circuit
  pub malformed : IsMalformedReport circuit text line

-- NET has a circuit, of which this text spells no proofs, and so its line of this number is told
pub record HasMalformedProofs (net text : List ℕ) (line : ℕ) : Type 0 where
  pub circuit : Circuit
  pub has : HasCircuit net circuit
  pub malformed : IsMalformedProofs circuit text line

-- a text is the proofs file of such proofs in a version that no rules of this launch have
pub record HasOtherVersion (launch : Launch) (c : Circuit) (text : List ℕ) : Type 0 where
  pub version : ProofsVersion
  pub proofs : List Proof
  pub spells : SpellsProofs c text version proofs
  pub none_has : (rules : Rules) → AreRulesOf launch c rules → ¬ IsVersionOf rules version

-- NET has a circuit, of which this text spells proofs in such a version, where pairs are launched as the mode and its inputs tell
pub record HasProofsOfOtherMode (mode : RunMode) (net : List ℕ) (scans : List (List ℕ)) (text : List ℕ) : Type 0 where
  pub circuit : Circuit
  pub has : HasCircuit net circuit
  pub launch : Launch
  pub has_launch : HasLaunch mode circuit scans launch
  pub other : HasOtherVersion launch circuit text
