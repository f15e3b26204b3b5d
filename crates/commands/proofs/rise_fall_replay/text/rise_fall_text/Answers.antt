-- One test more, or the first one that is over; and behind the last test the whole text.
use Rattle.std.proofs.Common.{◌≡◌, ◌+◌, ◌-◌, ◌*◌, ◌/◌, ◌%◌, List, [], ◌∷◌, ◌++◌, take, Some, refl, sym, ap, subst, ◌∙◌, arith}
use Rattle.std.proofs.lemmas.Option.{slice_get-get_or}
use Rattle.test_grade.specs.Lines.{AreTestsUnder, AreUnder, HasLineWords}
use Rattle.std.proofs.lemmas.List.{length-take-le, take_all, take_more}
use Rattle.pd_base.specs.declared.test.Test.{Test}
use Rattle.delay_replay.specs.ChangeLimits.{HasFewOf, RefusesWaves}
use Rattle.commands.specs.Inside.RiseFallReplaying.{sampled_waves, sampling_of}
use Rattle.commands.specs.RiseFallReplayText.{IsRiseFallText, judged_line}
use Rattle.commands.specs.TestChanges.{HaveFewOf, RefusesTestsOf}
use Rattle.commands.proofs.Replayed.{one_more_few, refused_here}
use Rattle.commands.proofs.RiseFallTexts.{no_lines, one_judged_more}
use Rattle.commands.proofs.rise_fall_replay.text.rise_fall_text.Goals as goal

pub loop-index-init : goal.loop-index-init
loop-index-init c = record {
  written = subst (IsRiseFallText (sampling_of c.args.at.now) []) (sym c.new-text.ensures.items) (no_lines (sampling_of c.args.at.now));
  few = λ k d within. absurd (omega arith);
  words = c.in_ok-judge.ensures;
  block = λ inside. absurd (inside refl);
}

pub returns-in-Err-clause-refused : goal.returns-in-Err-clause-refused
returns-in-Err-clause-refused c =
    let at = c.args.at.now in
    let test = c.index-tests-index.result in
    subst (RefusesTestsOf at.net.now (sampled_waves at) c.args.tests.now) (sym c.replay_text_fault.ensures)
    (refused_here at.net.now (sampled_waves at) c.args.tests.now c.loop-index.index test c.loop-index-test.true c.loop-index.invariant.few
    c.in-Err.fault
    (subst (λ (t : Test). RefusesWaves at.net.now (sampled_waves at t.pair) c.in-Err.fault) c.index-tests-index.is c.in-Err.ensures.refused))

pub word_on-word-requires-clause-under : goal.word_on-word-requires-clause-under
word_on-word-requires-clause-under c =
    let net = c.args.at.now.net.now in
    let place = c.loop-index.index in
    let test = c.index-tests-index.result in
    let lane : place - place / 64 * 64 ≡ place % 64 = omega arith in
    subst (λ lane. AreUnder net test.pair lane c.go_on.new.self.finals c.go_on.new.self.steadies) lane
    (c.go_on.ensures.tests place test (omega arith) (omega arith)
    (slice_get-get_or c.args.tests.now place test c.loop-index-test.true ∙ ap Some (sym c.index-tests-index.is)))

pub loop-index-preserved : goal.loop-index-preserved
loop-index-preserved c =
    let at = c.args.at.now in
    let tests = c.args.tests.now in
    let place = c.loop-index.index in
    let test = c.index-tests-index.result in
    let more : take (place + 1) tests ≡ take place tests ++ test ∷ [] =
    take_more tests place test c.loop-index-test.true ∙ ap (λ (t : Test). take place tests ++ t ∷ []) (sym c.index-tests-index.is) in
    let long = length-take-le place tests (omega arith) in
    let line = judged_line (sampling_of at) (place + 1) (record { test = test; word = c.word_on-word.result }) in
    let judged =
    one_judged_more (sampling_of at) (take place tests) c.loop-index.text.items test c.word_on-word.result (place + 1) (omega arith)
    c.word_on-word.ensures.word c.loop-index.invariant.written in
    record {
      written =
          subst (IsRiseFallText (sampling_of at) (take (place + 1) tests)) (sym c.in_default.ensures.line)
          (subst (λ (some : List Test). IsRiseFallText (sampling_of at) some (c.loop-index.text.items ++ line)) (sym more) judged);
      few =
          one_more_few at.net.now (sampled_waves at) tests place test c.loop-index-test.true c.loop-index.invariant.few
          (subst (λ (t : Test). HasFewOf at.net.now (sampled_waves at t.pair)) c.index-tests-index.is c.in_default.ensures.few);
      words = subst (HasLineWords at.net.now) (sym c.word_on-word.ensures.same) c.go_on.ensures.words;
      block = λ inside.
          let same : place / 64 * 64 ≡ (place + 1) / 64 * 64 = omega arith in
          subst (AreTestsUnder at.net.now ((place + 1) / 64 * 64) tests) (sym c.word_on-word.ensures.same)
          (subst (λ begin. AreTestsUnder at.net.now begin tests c.go_on.new.self) same c.go_on.ensures.tests);
    }

pub returns-clause-text : goal.returns-clause-text
returns-clause-text c =
    subst (λ (some : List Test). IsRiseFallText (sampling_of c.args.at.now) some c.loop-index.text.items)
    (take_all c.loop-index.index c.args.tests.now (omega arith)) c.loop-index.invariant.written

pub returns-clause-few : goal.returns-clause-few
returns-clause-few c =
    subst (HaveFewOf c.args.at.now.net.now (sampled_waves c.args.at.now))
    (take_all c.loop-index.index c.args.tests.now (omega arith)) c.loop-index.invariant.few
