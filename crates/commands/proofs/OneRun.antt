-- The three files tell their run, once circuit and launch are known: two runs with the same three texts are one, under the same rules.
use Rattle.std.proofs.Common.{◌≡◌, ℕ, ◌<◌, ◌^◌, List, sym, ap, ◌∙◌, arith}
use Rattle.netlist.specs.Circuit.{Circuit, line_count}
use Rattle.netlist.specs.Lawful.{IsCircuit}
use Rattle.runs.specs.declared.run.Run.{Run}
use Rattle.run_files.proofs.TestFiles.{tests_once}
use Rattle.run_files.proofs.ProofFiles.{proofs_once}
use Rattle.run_files.proofs.ReportOnce.{report_once}
use Rattle.run_files.specs.ProofsVersions.{at_sources}
use Rattle.commands.specs.SpelledRuns.{SpellsRun}
use Rattle.commands.specs.declared.launch.Launch.{Launch}
use Rattle.commands.proofs.ModeRules.{rules_once}

-- of one launch three texts spell one run of a circuit at most
pub run_once : (launch : Launch) (c : Circuit) → IsCircuit c → (tests report proofs : List ℕ) (run other : Run)
    → SpellsRun launch c tests report proofs run → SpellsRun launch c tests report proofs other → run ≡ other
run_once launch c circuit tests report proofs run other spells spells' =
    let few : line_count c < 2 ^ 64 = omega (arith, circuit.few_lines) in
    let same_tests =
    tests_once c run.tests other.tests spells.tests_are.lawful spells'.tests_are.lawful (sym spells.tests_are.is_text ∙ spells'.tests_are.is_text) in
    let same_paths =
    report_once c circuit run.paths other.paths spells.report_is.lawful spells'.report_is.lawful
    (sym spells.report_is.is_text ∙ spells'.report_is.is_text) in
    let same_proofs =
    proofs_once c few spells.proofs_are.version spells'.proofs_are.version run.proofs other.proofs
    spells.proofs_are.spells.lawful spells'.proofs_are.spells.lawful
    (sym spells.proofs_are.spells.is_text ∙ spells'.proofs_are.spells.is_text) in
    let same_rules =
    rules_once launch c run.rules other.rules spells.of_mode spells'.of_mode
    (sym spells.proofs_are.of_rules ∙ ap at_sources same_proofs.0 ∙ spells'.proofs_are.of_rules) in
    λ i. record { rules = same_rules i; paths = same_paths i; tests = same_tests i; proofs = same_proofs.1 i }
