-- Which inputs `compact` accepts: what can be compacted, what gen left where there is not too much to grade, and what compact left, of which
-- it keeps all.
use Rattle.std.proofs.Common.{◌≡◌, ℕ, ◌≤◌, List, [], ◌∷◌, ◌++◌, length, Option, Some, refl, sym, ap, ap₂, subst, ◌∙◌}
use Rattle.pd_base.specs.declared.limits.TheConstants.{MOST_BYTES}
use Rattle.pd_base.specs.declared.test.Test.{Test}
use Rattle.pd_io.specs.Folder.{Folder, bytes_at}
use Rattle.pd_io.specs.Seen.{Outside}
use Rattle.pd_io.proofs.OpenFile.{bytes_at-put}
use Rattle.pd_io.proofs.Tellings.{tells_weaker}
use Rattle.netlist.specs.Circuit.{Circuit}
use Rattle.bench_reader.specs.Circuits.{HasCircuit}
use Rattle.bench_reader.proofs.Answering.{one_circuit}
use Rattle.runs.specs.declared.run.ListedPath.{ListedPath}
use Rattle.test_grade.specs.Compacted.{IsCompacted}
use Rattle.test_grade.specs.Serving.{Serves}
use Rattle.run_files.specs.TestsText.{tests_text}
use Rattle.command_line.specs.Words.{CompactCall}
use Rattle.calls.specs.declared.role.Role.TheVariants as role
use Rattle.calls.specs.declared.status.Status.{Status}
use Rattle.calls.specs.Calls.{Ends, HasAcceptedInputs, IsDone, IsDoneOrNoMemory, NoneFailed}
use Rattle.calls.specs.Passing.{Pass}
use Rattle.calls.specs.Work.{Products, Require, Stage, due_file, names_read}
use Rattle.calls.specs.Writing.{put_all}
use Rattle.calls.proofs.Acceptance.{passed_alike}
use Rattle.calls.proofs.Calls.{completes, is_done}
use Rattle.calls.proofs.LaterStages.{answered_at}
use Rattle.commands.specs.declared.inputs.reading.TheConstants.{INPUT_LIMIT}
use Rattle.commands.specs.Compact.{GivesCompact, GivesKept, compact_command, compact_stages, compact_work, kept_line, out_due}
use Rattle.commands.specs.CompactLaws.{CanBeCompacted, FindsKept, KeepsAll, KeepsCompactLaws, compact_inputs}
use Rattle.commands.specs.InputRequirements.{ExpectRight, FewGrades, ListsPaths, Requirement, graded_stages, net_stages, tests_and_report_forms, tests_and_report_stages}
use Rattle.commands.specs.SpelledRuns.{SpellTestsAndPaths, SpellsReport}
use Rattle.commands.specs.SpelledTests.{SpellsTests}
use Rattle.commands.proofs.CompactLeft.{KeptFiles, left_by_compact}
use Rattle.commands.proofs.GradedLeft.{HoldsGradable, holds_gradable}
use Rattle.commands.proofs.GradedPasses.{pass_before_grades, pass_graded, reads_pass}
use Rattle.commands.proofs.GradedStages.{same_paths, same_tests}
use Rattle.commands.proofs.KeptTests.{none_left_out}

module _ (call : CompactCall) (now : Folder) where
  -- what can be compacted is accepted
  all_pass : CanBeCompacted call now → Pass (compact_work call) (Some now) (compact_stages call) [] (compact_inputs call now)
  all_pass can =
      reads_pass (compact_command call) now call.net call.tests call.report (graded_stages ++ []) can.circuit (compact_inputs call now) can.are.has
      can.net_within can.tests_within can.report_within
      (pass_graded (compact_command call) (Some now) (bytes_at now.held call.net) can.circuit can.are.has (bytes_at now.held call.tests)
      (bytes_at now.held call.report) [] can.listed can.paths can.are.spell [] (compact_inputs call now) can.are.graded refl)

  accepted : CanBeCompacted call now → HasAcceptedInputs (compact_work call) (Some now)
  accepted can = record { told = tt; inputs = compact_inputs call now; passed = all_pass can }

  -- the stages up to the last requirement
  abbrev front : List (Stage (Requirement ⊥))
  front =
      net_stages call.net ++ tests_and_report_stages call.tests call.report ++ tests_and_report_forms 1
      ++ Require ListsPaths ∷ Require ExpectRight ∷ []

  -- where tests can be graded but for their number, these are passed
  front_passes : HoldsGradable call.net call.tests call.report now
      → Pass (compact_work call) (Some now) front [] (compact_inputs call now)
  front_passes it =
      reads_pass (compact_command call) now call.net call.tests call.report
      (tests_and_report_forms 1 ++ Require ListsPaths ∷ Require ExpectRight ∷ [] ++ []) it.circuit (compact_inputs call now) it.has
      it.net_within it.tests_within it.report_within
      (pass_before_grades (compact_command call) (Some now) (bytes_at now.held call.net) it.circuit it.has (bytes_at now.held call.tests)
      (bytes_at now.held call.report) [] it.listed it.paths it.spell [] (compact_inputs call now) it.are_paths it.expect refl)

-- what compact left is accepted, and all of it is kept
module _ (first : CompactCall) (left : Folder) (it : KeptFiles first left) (call : CompactCall) (now : Folder)
    (finds : FindsKept first left call now) where
  net_is : bytes_at now.held call.net ≡ it.net
  net_is = finds.net_is ∙ it.net_left

  tests_are : bytes_at now.held call.tests ≡ tests_text it.circuit it.kept
  tests_are = finds.tests_is ∙ it.out_left

  report_is : bytes_at now.held call.report ≡ it.report
  report_is = finds.report_is ∙ it.report_left

  has_now : HasCircuit (bytes_at now.held call.net) it.circuit
  has_now = subst (λ (bytes : List ℕ). HasCircuit bytes it.circuit) (sym net_is) it.has

  spells_tests : SpellsTests it.circuit (bytes_at now.held call.tests) it.kept
  spells_tests = record { lawful = it.lawful; is_text = tests_are }

  spells_report : SpellsReport it.circuit (bytes_at now.held call.report) it.paths
  spells_report = subst (λ (bytes : List ℕ). SpellsReport it.circuit bytes it.paths) (sym report_is) it.report_is

  kept_can : CanBeCompacted call now
  kept_can = record {
    circuit = it.circuit;
    listed = it.kept;
    paths = it.paths;
    are = record {
      has = has_now;
      spell = record { tests_are = spells_tests; report_is = spells_report };
      graded = it.graded;
    };
    net_within = subst (λ (bytes : List ℕ). length bytes ≤ INPUT_LIMIT) (sym net_is) it.net_within;
    tests_within = subst (λ (bytes : List ℕ). length bytes ≤ MOST_BYTES) (sym tests_are) it.kept_within;
    report_within = subst (λ (bytes : List ℕ). length bytes ≤ MOST_BYTES) (sym report_is) it.report_within;
  }

  -- what is given of these inputs keeps all tests
  module _ (products : Products) (gives : GivesKept call (bytes_at now.held call.net) (bytes_at now.held call.tests)
      (bytes_at now.held call.report) products) where
    same_circuit : gives.circuit ≡ it.circuit
    same_circuit = one_circuit (bytes_at now.held call.net) gives.circuit it.circuit gives.are.has has_now

    -- the tests that are kept are the tests that were read
    keeps : gives.kept ≡ it.kept
    keeps =
        let P : Circuit → Type 0 = λ d.
        SpellTestsAndPaths d (bytes_at now.held call.tests) (bytes_at now.held call.report) gives.listed gives.paths
        × IsCompacted (Serves d gives.paths) gives.listed gives.kept in
        let here : P it.circuit = subst P same_circuit (gives.are.spell, gives.compacted) in
        let listed : gives.listed ≡ it.kept =
        same_tests it.circuit (bytes_at now.held call.tests) gives.listed it.kept here.0.tests_are spells_tests in
        let paths : gives.paths ≡ it.paths =
        same_paths (bytes_at now.held call.net) it.circuit has_now (bytes_at now.held call.report) gives.paths it.paths here.0.report_is
        spells_report in
        let of_paths : IsCompacted (Serves it.circuit it.paths) gives.listed gives.kept =
        subst (λ (p : List ListedPath). IsCompacted (Serves it.circuit p) gives.listed gives.kept) paths here.1 in
        let of_both : IsCompacted (Serves it.circuit it.paths) it.kept gives.kept =
        subst (λ (l : List Test). IsCompacted (Serves it.circuit it.paths) l gives.kept) listed of_paths in
        none_left_out (Serves it.circuit it.paths) it.listed it.kept gives.kept it.compacted of_both

    listed_are : gives.listed ≡ it.kept
    listed_are =
        same_tests it.circuit (bytes_at now.held call.tests) gives.listed it.kept
        (subst (λ (d : Circuit). SpellsTests d (bytes_at now.held call.tests) gives.listed) same_circuit gives.are.spell.tests_are)
        spells_tests

    products_are : products
        ≡ record {
          files = due_file role.Out call.out (bytes_at now.held call.tests) ∷ [];
          out = kept_line (length it.kept) (length it.kept);
        }
    products_are =
        gives.is
        ∙ ap₂ (λ (d : Circuit) (kept : List Test).
        record { files = out_due call d kept ∷ []; out = kept_line (length kept) (length gives.listed) }) same_circuit keeps
        ∙ ap (λ (l : List Test).
        record { files = out_due call it.circuit it.kept ∷ []; out = kept_line (length it.kept) (length l) }) listed_are
        ∙ ap (λ (text : List ℕ).
        record { files = due_file role.Out call.out text ∷ []; out = kept_line (length it.kept) (length it.kept) }) (sym tests_are)

  -- so where the work was done
  all_kept : (old new : Outside) → old.files.folder ≡ Some now → IsDone (compact_work call) old new → KeepsAll call now old new
  all_kept old new told done = by done.inputs passed done.gives where
    passed : Pass (compact_work call) (Some now) (compact_stages call) [] done.inputs
    passed =
        subst (λ (folder : Option Folder). Pass (compact_work call) folder (compact_stages call) [] done.inputs) told done.passed

    with_products : GivesKept call (bytes_at now.held call.net) (bytes_at now.held call.tests) (bytes_at now.held call.report) done.products
        → KeepsAll call now old new
    with_products gives =
        let are = products_are done.products gives in
        record {
          tests = length it.kept;
          out = tells_weaker old.files.folder new.files.folder
              (λ before after. after ≡ record {
                held = put_all before.held done.products.files;
                asked = before.asked ++ names_read (compact_stages call);
              })
              (λ before after. bytes_at after.held call.out ≡ bytes_at now.held call.tests) done.files
              (λ before after wrote.
              ap (λ (f : Folder). bytes_at f.held call.out) wrote
              ∙ ap (λ (p : Products). bytes_at (put_all before.held p.files) call.out) are
              ∙ bytes_at-put before.held call.out (bytes_at now.held call.tests));
          line = tells_weaker old.out.taken new.out.taken (λ before after. after ≡ before ++ done.products.out)
              (λ before after. after ≡ before ++ kept_line (length it.kept) (length it.kept)) done.out
              (λ before after took. took ∙ ap (λ (p : Products). before ++ p.out) are);
        }

    by : (inputs : List (List ℕ)) → Pass (compact_work call) (Some now) (compact_stages call) [] inputs
        → GivesCompact call inputs done.products → KeepsAll call now old new
    by inputs pass gives =
        let read : inputs ≡ compact_inputs call now =
        passed_alike (compact_work call) (Some now) (compact_stages call) [] inputs (compact_inputs call now) tt pass
        (all_pass call now kept_can) in
        with_products (subst (λ (i : List (List ℕ)). GivesCompact call i done.products) read gives)

-- what holds of a call of compact
pub compact_laws : (call : CompactCall) (status : Status) (old new : Outside) → Ends (compact_work call) status old new
    → KeepsCompactLaws call status old new
compact_laws call status old new ends = record {
  complete = λ now can told none. completes_on now told none (accepted call now can);
  behind_gen = λ run left now was hold told none.
      answered_at (compact_work call) (Some now) (front call now) (compact_inputs call now) tt
      (front_passes call now (holds_gradable run left now call.net call.tests call.report was hold)) FewGrades refl status old new ends told
      none;
  behind_compact = λ first left now was finds told none.
      completes_on now told none (accepted call now (kept_can first left (left_by_compact first left was) call now finds));
  keeps_all = λ first left now was finds told done.
      all_kept first left (left_by_compact first left was) call now finds old new told
      (is_done (compact_work call) status old new ends done);
} where
  completes_on : (now : Folder) → old.files.folder ≡ Some now → NoneFailed old new → HasAcceptedInputs (compact_work call) (Some now)
      → IsDoneOrNoMemory status
  completes_on now told none accepts =
      completes (compact_work call) status old new ends (subst (HasAcceptedInputs (compact_work call)) (sym told) accepts) none
