-- What is read of three texts is the run that they spell, or a line is malformed; and they spell one run at most.
use Rattle.std.proofs.Common.{◌≡◌, ℕ, List, None, Some, Result, Ok, Err, subst, ◌∙◌}
use Rattle.std.specs.Global.{Vec}
use Rattle.netlist.specs.Circuit.{Circuit}
use Rattle.pd_base.specs.declared.rules.Rules.{Rules}
use Rattle.runs.specs.Lawful.{IsLawfulRun}
use Rattle.runs.specs.declared.run.ListedPath.{ListedPath}
use Rattle.runs.specs.declared.run.Proof.{Proof}
use Rattle.runs.specs.declared.run.Run.{Run}
use Rattle.text_pieces.specs.Reads.{Reads}
use Rattle.run_files.specs.ProofsReading.{ProofsAnswer}
use Rattle.run_files.specs.ProofsVersions.{version_number, IsVersionOf}
use Rattle.run_files.specs.ReportForm.{IsSpelledReport}
use Rattle.run_files.specs.ReportReading.{ReportAnswer}
use Rattle.run_files.specs.ReportText.{report_text}
use Rattle.run_files.specs.declared.fault.TextFault.{TextFault}
use Rattle.run_files.specs.declared.fault.TextFault.TheVariants.{Malformed}
use Rattle.run_files.specs.declared.version.ProofsVersion.{ProofsVersion}
use Rattle.commands.specs.Inside.Checking.{SpellsNumbered}
use Rattle.commands.specs.SpelledRuns.{IsMalformedProofs, IsMalformedReport, SpellsProofsOf, SpellsReport, SpellsRun}
use Rattle.commands.specs.declared.launch.Launch.{Launch}
use Rattle.run_files.proofs.Versions.{spelled_is_lawful, version_by_number}

module _ (c : Circuit) (text : List ℕ) where
  pub spells_report : (paths : List ListedPath) → Reads (report_text c) (IsSpelledReport c) text (Some paths) → SpellsReport c text paths
  spells_report paths read = record { lawful = read.found.0; is_text = read.found.1 }

  pub malformed_report : (result : Result (Vec ListedPath) TextFault) (line : ℕ) → result ≡ Err (Malformed line)
      → ReportAnswer c text result → IsMalformedReport c text line
  malformed_report result line is answer =
      let told = subst (ReportAnswer c text) is answer in
      record {
        none = λ paths spells. let never : None ≡ Some paths = told.0.only paths spells.lawful spells.is_text in absurd cc;
        first = told.1;
      }

  pub spells_numbered : (number : ℕ) (proofs : Vec Proof) → ProofsAnswer c text (Ok (number, proofs))
      → SpellsNumbered c text number proofs.items
  spells_numbered number proofs read = record {
    version = read.0;
    is_number = read.1;
    spells = record { lawful = read.2.found.0; is_text = read.2.found.1 };
  }

  pub malformed_proofs : (result : Result (ℕ × Vec Proof) TextFault) (line : ℕ) → result ≡ Err (Malformed line)
      → ProofsAnswer c text result → IsMalformedProofs c text line
  malformed_proofs result line is answer =
      let told = subst (ProofsAnswer c text) is answer in
      record {
        none = λ version proofs spells.
            let never : None ≡ Some (version, proofs) = told.0.only (version, proofs) spells.lawful spells.is_text in absurd cc;
        first = told.1;
      }

-- proofs whose version is one of the rules
pub in_version : (c : Circuit) (text : List ℕ) (number : ℕ) (proofs : List Proof) (rules : Rules) → SpellsNumbered c text number proofs
    → (version : ProofsVersion) → version_number version ≡ number → IsVersionOf rules version → SpellsProofsOf c text rules proofs
in_version c text number proofs rules read version is of = record {
  version = read.version;
  of_rules = subst (IsVersionOf rules) (version_by_number version read.version (is ∙ read.is_number)) of;
  spells = read.spells;
}

-- the files can spell the run
pub run_is_lawful : (launch : Launch) (c : Circuit) (tests report proofs : List ℕ) (run : Run) → SpellsRun launch c tests report proofs run
    → IsLawfulRun c run
run_is_lawful launch c tests report proofs run spells = record {
  tests = spells.tests_are.lawful;
  report = spells.report_is.lawful.lawful;
  proofs = spelled_is_lawful c run.rules spells.proofs_are.version spells.proofs_are.of_rules run.proofs spells.proofs_are.spells.lawful;
}
