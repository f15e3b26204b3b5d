-- One test more, or the first one that is over; and behind the last test the whole text.
use Rattle.std.proofs.Common.{◌≡◌, ◌+◌, ◌++◌, drop, sym, ap, subst, ◌∙◌, append-nil, arith, to_z, of_z, w64}
use Rattle.std.proofs.lemmas.Int.{to_z-of_z}
use Rattle.std.proofs.lemmas.List.{drop_all, take_all}
use Rattle.pd_base.specs.declared.test.Test.{Test}
use Rattle.pd_base.specs.Pair.{Vectors}
use Rattle.netlist.specs.Waves.{wave_of}
use Rattle.delay_annotation.specs.Annotation.{delays_of}
use Rattle.delay_replay.specs.ChangeLimits.{HasFewChanges, RefusesReplay}
use Rattle.commands.specs.ReplayText.{replay_text, replayed_line, replayed_lines}
use Rattle.commands.specs.TestChanges.{HaveFewChanges, RefusesTests}
use Rattle.commands.proofs.NumberedLines.{one_line_more}
use Rattle.commands.proofs.Replayed.{one_more_few, refused_here}
use Rattle.commands.proofs.replay.text.replay_text.Goals as goal

pub returns-in-Err-clause-refused : goal.returns-in-Err-clause-refused
returns-in-Err-clause-refused c =
    let net = c.args.net.now in
    let delays = delays_of c.args.net.now c.args.delays.now in
    let test = c.index-tests-index.result in
    subst (RefusesTests net delays c.args.tests.now) (sym c.replay_text_fault.ensures)
    (refused_here net (λ (pair : Vectors). wave_of net pair delays) c.args.tests.now c.loop-index.index test c.loop-index-test.true c.loop-index.invariant.few c.in-Err.fault
    (subst (λ (t : Test). RefusesReplay net t.pair delays c.in-Err.fault) c.index-tests-index.is c.in-Err.ensures.refused))

pub loop-index-preserved : goal.loop-index-preserved
loop-index-preserved c =
    let net = c.args.net.now in
    let delays = delays_of c.args.net.now c.args.delays.now in
    let time = to_z w64 (of_z w64 c.args.time) in
    let tests = c.args.tests.now in
    let place = c.loop-index.index in
    let test = c.index-tests-index.result in
    let at : test ≡ _ = c.index-tests-index.is in
    record {
      written =
          ap (λ text. text ++ replayed_lines net delays time (place + 1 + 1) (drop (place + 1) tests))
          (c.in_default.ensures.line ∙ ap (λ (t : Test). c.loop-index.text.items ++ replayed_line net delays time (place + 1) t) at)
          ∙ one_line_more tests place test c.loop-index-test.true (replayed_line net delays time) (place + 1)
          c.loop-index.text.items _
          c.loop-index.invariant.written;
      few =
          one_more_few net (λ (pair : Vectors). wave_of net pair delays) tests place test c.loop-index-test.true c.loop-index.invariant.few
          (subst (λ (t : Test). HasFewChanges net t.pair delays) at c.in_default.ensures.few);
    }

pub returns-clause-text : goal.returns-clause-text
returns-clause-text c =
    let net = c.args.net.now in
    let delays = delays_of c.args.net.now c.args.delays.now in
    let time = to_z w64 (of_z w64 c.args.time) in
    sym (append-nil c.loop-index.text.items)
    ∙ ap (λ rest. c.loop-index.text.items ++ replayed_lines net delays time (c.loop-index.index + 1) rest)
    (sym (drop_all c.loop-index.index c.args.tests.now (omega arith)))
    ∙ c.loop-index.invariant.written
    ∙ ap (λ t. replay_text net delays c.args.tests.now t) (to_z-of_z w64 c.args.time c.ranges.time)

pub returns-clause-few : goal.returns-clause-few
returns-clause-few c =
    subst (HaveFewChanges c.args.net.now (delays_of c.args.net.now c.args.delays.now))
    (take_all c.loop-index.index c.args.tests.now (omega arith)) c.loop-index.invariant.few
