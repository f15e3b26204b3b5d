-- Each turn picks the next test where its flag is set.
use Rattle.std.proofs.Common.{true, false, append-nil, length-append, ap, sym, ◌∙◌, arith}
use Rattle.std.proofs.Common.{Vec}
use Rattle.test_grade.proofs.Picking.{flagged_more}
use Rattle.test_grade.proofs.flagged_tests.flagged.Goals.{then-flags-place+in_ok-push, else-flags-place}
use Rattle.test_grade.proofs.flagged_tests.flagged.Goals as goal

pub loop-test-preserved : goal.loop-test-preserved
loop-test-preserved c =
    let flags = c.args.flags.now in
    let turn = c.loop-test.invariant in
    let place = c.loop-test.place in
    let items = c.loop-test.yielded in
    let x = c.in-Some.test in
    elim c.if-flags-place.branch [
      | then-flags-place+in_ok-push w ↦
          record {
            picked = flagged_more flags items x true c.loop-test.kept.items c.if-flags-place.kept.items place turn.place
                w.if-flags-place.true turn.picked (ap (λ (v : Vec _ _). v.items) w.kept-is ∙ w.in_ok-push.ensures.items);
            place = simp length-append (omega arith);
          }
      | else-flags-place w ↦
          record {
            picked = flagged_more flags items x false c.loop-test.kept.items c.if-flags-place.kept.items place turn.place
                w.if-flags-place.false turn.picked (ap (λ (v : Vec _ _). v.items) w.kept-is ∙ sym (append-nil c.loop-test.kept.items));
            place = simp length-append (omega arith);
          }
    ]

pub loop-test-preserved-then-if-drop : goal.loop-test-preserved-then-if-drop
loop-test-preserved-then-if-drop c =
    let flags = c.args.flags.now in
    let turn = c.loop-test.invariant in
    let place = c.loop-test.place in
    let items = c.loop-test.yielded in
    let x = c.in-Some.test in
    elim c.if-flags-place.branch [
      | then-flags-place+in_ok-push w ↦
          record {
            picked = flagged_more flags items x true c.loop-test.kept.items c.if-flags-place.kept.items place turn.place
                w.if-flags-place.true turn.picked (ap (λ (v : Vec _ _). v.items) w.kept-is ∙ w.in_ok-push.ensures.items);
            place = simp length-append (omega arith);
          }
      | else-flags-place w ↦
          record {
            picked = flagged_more flags items x false c.loop-test.kept.items c.if-flags-place.kept.items place turn.place
                w.if-flags-place.false turn.picked (ap (λ (v : Vec _ _). v.items) w.kept-is ∙ sym (append-nil c.loop-test.kept.items));
            place = simp length-append (omega arith);
          }
    ]
