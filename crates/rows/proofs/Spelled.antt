-- What is read of the files of a run is lawful, so that it can be spelled again.
use Rattle.std.specs.Prelude.{ℕ, List, Result, Ok, Err, IfOk}
use Rattle.std.specs.Global.{Vec}
use Rattle.pd_base.specs.declared.test.Test.{Test}
use Rattle.netlist.specs.Circuit.{Circuit}
use Rattle.runs.specs.declared.run.ListedPath.{ListedPath}
use Rattle.runs.specs.declared.run.Proof.{Proof}
use Rattle.runs.specs.Lawful.{AreLawfulTests, AreLawfulProofs, IsLawfulReport}
use Rattle.run_files.specs.declared.fault.TextFault.{TextFault}
use Rattle.run_files.specs.TestsReading.{TestsAnswer}
use Rattle.run_files.specs.ReportReading.{ReportAnswer}
use Rattle.run_files.specs.ProofsReading.{ProofsAnswer}

-- tests
pub lawful_tests : (c : Circuit) (text : List ℕ) (result : Result (Vec Test) TextFault) → TestsAnswer c text result
    → IfOk result (λ tests. AreLawfulTests c tests.items)
lawful_tests c text (Ok tests) answer = answer.found.0
lawful_tests c text (Err fault) answer = tt

-- a report
pub lawful_report : (c : Circuit) (text : List ℕ) (result : Result (Vec ListedPath) TextFault) → ReportAnswer c text result
    → IfOk result (λ paths. IsLawfulReport c paths.items)
lawful_report c text (Ok paths) answer = answer.found.0.lawful
lawful_report c text (Err fault) answer = tt

-- proofs
pub lawful_proofs : (c : Circuit) (text : List ℕ) (result : Result (ℕ × Vec Proof) TextFault) → ProofsAnswer c text result
    → IfOk result (λ read. AreLawfulProofs read.1.items)
lawful_proofs c text (Ok read) answer = answer.2.found.0.lawful
lawful_proofs c text (Err fault) answer = tt
