-- What each requirement of `scan` on TESTS accepts.
use Rattle.std.proofs.Common.{ℕ, ◌≤◌, List, [], ◌∷◌, All, length, subst}
use Rattle.pd_base.specs.declared.ids.LineId.{LineId}
use Rattle.pd_base.specs.declared.limits.TheConstants.{MOST_BYTES}
use Rattle.pd_base.specs.declared.test.Test.{Test}
use Rattle.netlist.specs.Circuit.{Circuit}
use Rattle.bench_reader.specs.Circuits.{HasCircuit}
use Rattle.bench_reader.proofs.Answering.{one_circuit}
use Rattle.bench_reader.proofs.LawfulCircuits.{is_circuit}
use Rattle.scan_order.proofs.ScanLaws.{chains_once}
use Rattle.command_line.specs.Words.{ScanCall}
use Rattle.calls.specs.declared.role.Role.TheVariants as role
use Rattle.calls.specs.Passing.{Accepts}
use Rattle.commands.specs.Grading.{IsFirstWithout}
use Rattle.commands.specs.InputRequirements.{WellFormed, WithinLimit, own}
use Rattle.commands.specs.Scan.{AreScanned, CanBeLoaded, LaunchesPairs, scan_command, scan_work}
use Rattle.commands.specs.SpelledTests.{SpellsTests}
use Rattle.commands.proofs.FirstWithout.{none_without}
use Rattle.commands.proofs.GradedStages.{same_tests}
use Rattle.commands.proofs.InputFaults.{tests_formed}
use Rattle.commands.proofs.InputStages.{accepts_form}
use Rattle.commands.proofs.StageReads.{accepts_size}

module _ (call : ScanCall) (net scan tests : List ℕ) where
  -- the inputs, in order
  abbrev pub scanned_inputs : List (List ℕ)
  scanned_inputs = net ∷ scan ∷ tests ∷ []

  -- TESTS is within the limit
  pub accepts_tests_size : length tests ≤ MOST_BYTES → Accepts (scan_work call) (WithinLimit role.Tests) scanned_inputs
  accepts_tests_size within = accepts_size (scan_command call) role.Tests (net ∷ scan ∷ []) tests within

  -- TESTS is the file of some tests
  pub accepts_tests : (c : Circuit) → HasCircuit net c → (listed : List Test) → SpellsTests c tests listed
      → Accepts (scan_work call) (WellFormed role.Tests 2) scanned_inputs
  accepts_tests c has listed spells =
      accepts_form (scan_command call) role.Tests 2 net (scan ∷ tests ∷ []) (tests_formed net c has tests listed spells)

  -- some bits load their pairs
  pub accepts_pairs : (c : Circuit) (chains : List (List LineId)) (listed : List Test) → AreScanned net scan tests c chains listed
      → All (CanBeLoaded chains) listed → Accepts (scan_work call) (own LaunchesPairs) scanned_inputs
  accepts_pairs c chains listed are loadable refusal it =
      let P : Circuit → Type 0 = λ d. AreScanned net scan tests d it.chains it.listed in
      let here : P c = subst P (one_circuit net it.circuit c it.are.has are.has) it.are in
      let of_chains : IsFirstWithout (CanBeLoaded chains) it.listed it.number =
      subst (λ (given : List (List LineId)). IsFirstWithout (CanBeLoaded given) it.listed it.number)
      (chains_once c (is_circuit net c are.has) scan it.chains chains here.gives are.gives) it.first in
      none_without (CanBeLoaded chains) listed it.number loadable
      (subst (λ (l : List Test). IsFirstWithout (CanBeLoaded chains) l it.number)
      (same_tests c tests it.listed listed here.spells are.spells) of_chains)
