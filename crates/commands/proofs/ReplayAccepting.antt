-- What each requirement of `replay` on TESTS accepts.
use Rattle.std.proofs.Common.{◌≡◌, ℕ, ◌≤◌, List, [], ◌∷◌, length, sym, subst, ◌∙◌}
use Rattle.pd_base.specs.declared.test.Test.{Test}
use Rattle.pd_base.specs.Pair.{Vectors}
use Rattle.netlist.specs.Circuit.{Circuit}
use Rattle.netlist.specs.Waves.{Delays, wave_of}
use Rattle.bench_reader.specs.Circuits.{HasCircuit}
use Rattle.bench_reader.proofs.Answering.{one_circuit}
use Rattle.bench_reader.proofs.LawfulCircuits.{is_circuit}
use Rattle.delay_annotation.proofs.DelayLaws.{delays_agree}
use Rattle.run_files.proofs.TestFiles.{tests_once}
use Rattle.pd_base.specs.declared.limits.TheConstants.{MOST_BYTES}
use Rattle.command_line.specs.Words.{ReplayCall}
use Rattle.calls.specs.declared.role.Role.TheVariants as role
use Rattle.calls.specs.declared.refusal.Refusal.{Refusal}
use Rattle.calls.specs.Passing.{Accepts}
use Rattle.commands.specs.InputRequirements.{WellFormed, WithinLimit, own}
use Rattle.commands.specs.SpelledTests.{SpellsTests}
use Rattle.commands.specs.TestChanges.{HaveFewChanges, IsFirstTestOver}
use Rattle.commands.specs.Replay.{AreReplayed, FewChanges, HasTestOver, replay_command, replay_work}
use Rattle.commands.proofs.InputFaults.{tests_formed}
use Rattle.commands.proofs.InputStages.{accepts_form}
use Rattle.commands.proofs.StageReads.{accepts_size}
use Rattle.commands.proofs.Replayed.{few_tests_or_over}
use Rattle.commands.proofs.SameDelays.{few_by_delays}

-- the inputs, in order
abbrev pub three : List ℕ → List ℕ → List ℕ → List (List ℕ)
three net delays tests = net ∷ delays ∷ tests ∷ []

module _ (call : ReplayCall) (net delays tests : List ℕ) where
  -- TESTS is within the limit
  pub accepts_tests_size : length tests ≤ MOST_BYTES → Accepts (replay_work call) (WithinLimit role.Tests) (three net delays tests)
  accepts_tests_size within = accepts_size (replay_command call) role.Tests (net ∷ delays ∷ []) tests within

  -- TESTS is the file of some tests
  pub accepts_tests : (c : Circuit) → HasCircuit net c → (listed : List Test) → SpellsTests c tests listed
      → Accepts (replay_work call) (WellFormed role.Tests 2) (three net delays tests)
  accepts_tests c has listed spells =
      accepts_form (replay_command call) role.Tests 2 net (delays ∷ tests ∷ []) (tests_formed net c has tests listed spells)

  module _ (c : Circuit) (given : Delays) (listed : List Test) (are : AreReplayed net delays tests c given listed)
      (few : HaveFewChanges c given listed) where
    -- no test is over, whichever delays and tests the inputs are read as
    none_over : (other : Delays) (others : List Test) (number line : ℕ) → AreReplayed net delays tests c other others
        → ¬ IsFirstTestOver c other others number line
    none_over other others number line also first =
        let same : listed ≡ others =
        tests_once c listed others are.spells.lawful also.spells.lawful (sym are.spells.is_text ∙ also.spells.is_text) in
        let agree = delays_agree c (is_circuit net c are.has) delays given other are.gives also.gives in
        few_tests_or_over c (λ (pair : Vectors). wave_of c pair other) others number line
        (subst (HaveFewChanges c other) same (few_by_delays c given other agree listed few)) first

    -- nor whichever circuit
    no_test_over : (refusal : Refusal) → ¬ HasTestOver net delays tests refusal
    no_test_over refusal over =
        let P : Circuit → Type 0 = λ d.
        AreReplayed net delays tests d over.given over.listed × IsFirstTestOver d over.given over.listed over.number over.line in
        let here : P c = subst P (one_circuit net over.circuit c over.are.has are.has) (over.are, over.first) in
        none_over over.given over.listed over.number over.line here.0 here.1

    -- under no test's pair the lines change too often
    pub accepts_few : Accepts (replay_work call) (own FewChanges) (three net delays tests)
    accepts_few = no_test_over
