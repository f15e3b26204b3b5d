-- What gen left, as a later call finds it in NET, TESTS and REPORT: tests that can be graded, but for their number.
use Rattle.std.proofs.Common.{ℕ, ◌≤◌, List, length, map, All, sym, subst, ◌∙◌, arith}
use Rattle.std.proofs.lemmas.List.{get_or-map, length-map}
use Rattle.pd_base.specs.declared.limits.TheConstants.{MOST_BYTES}
use Rattle.pd_base.specs.declared.test.Test.{Test}
use Rattle.pd_base.specs.Route.{Route}
use Rattle.pd_io.specs.Folder.{Folder, bytes_at}
use Rattle.netlist.specs.Circuit.{Circuit}
use Rattle.netlist.specs.Lawful.{IsCircuit}
use Rattle.netlist.specs.Paths.{IsPath}
use Rattle.bench_reader.specs.Circuits.{HasCircuit}
use Rattle.bench_reader.proofs.LawfulCircuits.{is_circuit}
use Rattle.runs.specs.declared.run.ListedPath.{ListedPath}
use Rattle.command_line.specs.Words.{HasRunNumbers, RunCall}
use Rattle.commands.specs.declared.inputs.reading.TheConstants.{INPUT_LIMIT}
use Rattle.commands.specs.CompactLaws.{HoldRun}
use Rattle.commands.specs.Grading.{ExpectsValues, ListsPath}
use Rattle.commands.specs.LaterCalls.{HasNamesApart, WasLeftByGen}
use Rattle.commands.specs.SpelledRuns.{SpellTestsAndPaths}
use Rattle.commands.proofs.AskedRuns.{asks_for}
use Rattle.commands.proofs.GenLeft.{LeftFiles, files_left}
use Rattle.commands.proofs.GoodTexts.{CanBeRead, readable_texts, spelled_run}

-- under three names stand a netlist, and tests and listed paths of it that can be graded, but for their number
pub record HoldsGradable (net tests report : List ℕ) (now : Folder) : Type 0 where
  pub circuit : Circuit
  pub has : HasCircuit (bytes_at now.held net) circuit
  pub listed : List Test
  pub paths : List ListedPath
  pub spell : SpellTestsAndPaths circuit (bytes_at now.held tests) (bytes_at now.held report) listed paths
  pub are_paths : All (ListsPath circuit) paths
  pub expect : All (ExpectsValues circuit) listed
  pub net_within : length (bytes_at now.held net) ≤ INPUT_LIMIT
  pub tests_within : length (bytes_at now.held tests) ≤ MOST_BYTES
  pub report_within : length (bytes_at now.held report) ≤ MOST_BYTES

-- where the routes of listed paths are paths, these are
lists_paths : (c : Circuit) (paths : List ListedPath) → All (IsPath c) (map (λ (listed : ListedPath). listed.path) paths)
    → All (ListsPath c) paths
lists_paths c paths all place d within =
    let route : ListedPath → Route = λ listed. listed.path in
    subst (IsPath c) (get_or-map route paths place d (route d) within)
    (all place (route d) (omega (arith, length-map paths route)))

module _ (call : RunCall) (numbers : HasRunNumbers call) (left : Folder) (it : LeftFiles call left) (net tests report : List ℕ) (now : Folder)
    (hold : HoldRun call left net tests report now) where
  circuit_is : IsCircuit it.circuit
  circuit_is = is_circuit it.net it.circuit it.has

  readable : CanBeRead it.circuit it.run
  readable = readable_texts it.circuit circuit_is call numbers it.delay_file it.delays it.has_delays it.run it.good it.lawful it.short

  left_gradable : HoldsGradable net tests report now
  left_gradable =
      let spells = spelled_run it.circuit circuit_is call numbers it.delay_file it.delays it.has_delays it.run it.good it.lawful it.launch it.of_mode in
      record {
        circuit = it.circuit;
        has = subst (λ (bytes : List ℕ). HasCircuit bytes it.circuit) (sym (hold.net_is ∙ it.net_is)) it.has;
        listed = it.run.tests;
        paths = it.run.paths;
        spell = record {
          tests_are = record { lawful = spells.tests_are.lawful; is_text = hold.tests_is ∙ it.tests_is };
          report_is = record { lawful = spells.report_is.lawful; is_text = hold.report_is ∙ it.report_is };
        };
        are_paths = lists_paths it.circuit it.run.paths it.good.first.are_paths;
        expect = it.good.expected;
        net_within = subst (λ (bytes : List ℕ). length bytes ≤ INPUT_LIMIT) (sym (hold.net_is ∙ it.net_is)) it.net_within;
        tests_within = subst (λ (bytes : List ℕ). length bytes ≤ MOST_BYTES) (sym (hold.tests_is ∙ it.tests_is)) readable.tests;
        report_within = subst (λ (bytes : List ℕ). length bytes ≤ MOST_BYTES) (sym (hold.report_is ∙ it.report_is)) readable.report;
      }

-- what gen left is so
pub holds_gradable : (run : RunCall) (left now : Folder) (net tests report : List ℕ) → WasLeftByGen run left
    → HoldRun run left net tests report now → HoldsGradable net tests report now
holds_gradable run left now net tests report was hold =
    let asked = asks_for was.words run was.asked in
    let P : RunCall → Type 0 = λ r. HasRunNumbers r in
    let Q : RunCall → Type 0 = λ r. HasNamesApart r in
    left_gradable run (subst P asked.1 asked.0.numbers) left
    (files_left run (subst Q asked.1 asked.0.names) left was.left_by) net tests report now hold
