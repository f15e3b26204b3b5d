-- Where the lines change few times under the pairs of the tests, rfreplay refuses no test, whichever way its inputs are read.
use Rattle.std.proofs.Common.{◌≡◌, ℕ, true, false, List, [], ◌∷◌, sym, subst, ◌∙◌}
use Rattle.pd_base.specs.declared.fault.Direction.TheVariants.{Rise, Fall}
use Rattle.netlist.specs.Circuit.{Circuit}
use Rattle.netlist.specs.Lawful.{IsCircuit}
use Rattle.bench_reader.proofs.Answering.{one_circuit}
use Rattle.bench_reader.proofs.LawfulCircuits.{is_circuit}
use Rattle.delay_annotation.specs.DelayFile.{HasRiseFall}
use Rattle.delay_annotation.specs.declared.setting.Columns.TheVariants.{RiseAndFall}
use Rattle.delay_annotation.proofs.DelayLaws.{delays_on_agree}
use Rattle.run_files.proofs.TestFiles.{tests_once}
use Rattle.rise_fall.specs.Waves.{RiseFallDelays, rise_fall_copy, rise_fall_wave, risen_fallen}
use Rattle.command_line.specs.Words.{RiseFallReplayCall}
use Rattle.calls.specs.declared.refusal.Refusal.{Refusal}
use Rattle.calls.specs.Passing.{Accepts}
use Rattle.commands.specs.InputRequirements.{own}
use Rattle.commands.specs.Replay.{FewChanges}
use Rattle.commands.specs.RiseFallReplay.{AreReadAs, FourTexts, HasRiseFallTestOver, RiseFallInputs, rise_fall_replay_work, waves_under}
use Rattle.commands.specs.TestChanges.{HaveFewOf, IsFirstTestOf}
use Rattle.commands.proofs.Replayed.{few_tests_or_over}
use Rattle.commands.proofs.SameDelays.{PinsAgree, all_few_agree}

-- the inputs, in order
abbrev pub four : FourTexts → List (List ℕ)
four texts = texts.net ∷ texts.delays ∷ texts.tests ∷ texts.report ∷ []

-- two rise and fall delays that a file has make pins agree that read a line
copies_agree : (c : Circuit) → IsCircuit c → (bytes : List ℕ) (a b : RiseFallDelays) → HasRiseFall c bytes a → HasRiseFall c bytes b
    → PinsAgree c (rise_fall_copy a) (rise_fall_copy b)
copies_agree c circuit bytes a b has other pin line on =
    let rises : a pin true ≡ b pin true =
    delays_on_agree c RiseAndFall circuit Rise bytes (λ p. a p true) (λ p. b p true) has.0 other.0 pin line on in
    let falls : a pin false ≡ b pin false =
    delays_on_agree c RiseAndFall circuit Fall bytes (λ p. a p false) (λ p. b p false) has.1 other.1 pin line on in
    λ i wave. risen_fallen (rises i) (falls i) wave

module _ (texts : FourTexts) (read : RiseFallInputs) (are : AreReadAs texts read)
    (few : HaveFewOf read.circuit (waves_under read) read.tests) where
  -- the inputs as they are read with the circuit of NET
  record IsOverIn (c : Circuit) (other : RiseFallInputs) (number line : ℕ) : Type 0 where
    also : AreReadAs texts (record { circuit = c; delays = other.delays; tests = other.tests; paths = other.paths })
    first : IsFirstTestOf c (λ pair. rise_fall_wave c pair other.delays) other.tests number line

  -- no test is over, whichever delays and tests the inputs are read as
  none_over : (other : RiseFallInputs) (number line : ℕ) → ¬ IsOverIn read.circuit other number line
  none_over other number line it =
      let c = read.circuit in
      let same : read.tests ≡ other.tests =
      tests_once c read.tests other.tests are.spell.tests_are.lawful it.also.spell.tests_are.lawful
      (sym are.spell.tests_are.is_text ∙ it.also.spell.tests_are.is_text) in
      let agree = copies_agree c (is_circuit texts.net c are.has) texts.delays read.delays other.delays are.gives it.also.gives in
      few_tests_or_over c (λ pair. rise_fall_wave c pair other.delays) other.tests number line
      (subst (HaveFewOf c (λ pair. rise_fall_wave c pair other.delays)) same
      (all_few_agree c (rise_fall_copy read.delays) (rise_fall_copy other.delays) agree read.tests few))
      it.first

  -- nor whichever circuit
  no_test_over : (refusal : Refusal) → ¬ HasRiseFallTestOver texts refusal
  no_test_over refusal over =
      none_over over.read over.number over.line
      (subst (λ (d : Circuit). IsOverIn d over.read over.number over.line)
      (one_circuit texts.net over.read.circuit read.circuit over.are.has are.has) (record { also = over.are; first = over.first }))

  -- under no test's pair the lines change too often
  pub accepts_few : (call : RiseFallReplayCall) → Accepts (rise_fall_replay_work call) (own FewChanges) (four texts)
  accepts_few call = no_test_over
