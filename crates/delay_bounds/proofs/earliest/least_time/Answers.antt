-- One test more is told of.
use Rattle.std.proofs.Common.{◌≡◌, ◌+◌, length, sym, subst, ◌∙◌, arith}
use Rattle.delay_bounds.specs.Inside.Earliest.{IsTold}
use Rattle.delay_bounds.specs.Least.{IsLeast}
use Rattle.delay_bounds.proofs.Passes.{none_told, told_alike, told_more}
use Rattle.delay_bounds.proofs.earliest.least_time.Goals.{then-serves, else-serves}
use Rattle.delay_bounds.proofs.earliest.least_time.Goals as goal

pub loop-test-init : goal.loop-test-init
loop-test-init c = none_told c.args.words.now c.args.faults c.args.fault c.args.times.now

pub loop-test-preserved : goal.loop-test-preserved
loop-test-preserved c =
    let words = c.args.words.now in
    let times = c.args.times.now in
    let test = c.loop-test.test in
    elim c.if-serves.branch [
      | then-serves w ↦
          subst (IsLeast (IsTold words c.args.faults c.args.fault times (test + 1))) (sym (w.least-is ∙ w.earlier-least.ensures))
          (told_more words c.args.faults c.args.fault times test c.loop-test.least (sym c.serves.ensures ∙ w.if-serves.true) c.loop-test.invariant)
      | else-serves w ↦
          subst (IsLeast (IsTold words c.args.faults c.args.fault times (test + 1))) (sym w.least-is)
          (told_alike words c.args.faults c.args.fault times test c.loop-test.least (sym c.serves.ensures ∙ w.if-serves.false) c.loop-test.invariant)
    ]

pub returns : goal.returns
returns c =
    let times = c.args.times.now in
    let same : c.loop-test.test ≡ length times = omega arith in
    subst (λ count. IsLeast (IsTold c.args.words.now c.args.faults c.args.fault times count) c.loop-test.least) same c.loop-test.invariant
