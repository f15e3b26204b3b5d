-- Each turn of the loop counts one step more, by the delay of the value at which its line ends.
use Rattle.std.proofs.Common.{◌≡◌, ◌≤◌, pos, ◌<ℤ◌, false, get_or, drop, length, ap, ap₂, sym, subst, zero-add, ◌+◌, ◌∙◌, arith}
use Rattle.std.proofs.lemmas.List.{drop_all}
use Rattle.pd_base.specs.declared.ids.LineId.{LineId}
use Rattle.netlist.specs.Paths.{Connects}
use Rattle.path_laws.proofs.StepCounts.{prefix_has_few_steps}
use Rattle.delay_annotation.specs.RiseFall.{rise_fall_of}
use Rattle.delay_annotation.specs.declared.delays.TheConstants.{MOST_DELAY}
use Rattle.rise_fall.proofs.LatePaths.{robust_detects_rise_fall}
use Rattle.rise_fall.proofs.Measuring.{IsMeasured, first_pin, measured, measured_is_length, measured_more, no_step}
use Rattle.rise_fall.proofs.length.length_rise_fall.Goals as goal
use Rattle.rise_fall.proofs.length.length_rise_fall.Goals.{then-values-line, else-values-line}

pub loop-step-init : goal.loop-step-init
loop-step-init c =
    let net = c.args.net.now in
    let delays = rise_fall_of net c.args.delays.now in
    let path = c.args.path.now in record {
      fits = omega arith;
      measured = record {
        inside = omega (arith, ap (λ (line : LineId). line.0) c.source-line.ensures, c.requires.prefix.source);
        connects = subst (λ (line : LineId). Connects net line.0 c.steps-step-items.result.now) (sym c.source-line.ensures)
            (subst (Connects net path.source.0) (sym c.steps-step-items.ensures) c.requires.prefix.connects);
        sum = zero-add _ ∙ ap₂ (λ (line : LineId) steps. measured delays net c.args.values.now line.0 steps) c.source-line.ensures c.steps-step-items.ensures;
      };
    }

pub rise-delay-requires-clause-pin : goal.rise-delay-requires-clause-pin
rise-delay-requires-clause-pin c =
    (first_pin (rise_fall_of c.args.net.now c.args.delays.now) c.args.net.now c.args.values.now _ c.loop-step.total c.loop-step.line.0
    c.steps-step-items.result.now c.loop-step.step-index c.loop-step-test.true c.loop-step.invariant.measured).in_gate

pub fall-delay-requires-clause-pin : goal.fall-delay-requires-clause-pin
fall-delay-requires-clause-pin c =
    (first_pin (rise_fall_of c.args.net.now c.args.delays.now) c.args.net.now c.args.values.now _ c.loop-step.total c.loop-step.line.0
    c.steps-step-items.result.now c.loop-step.step-index c.loop-step-test.true c.loop-step.invariant.measured).in_gate

pub overflow_add-total : goal.overflow_add-total
overflow_add-total c =
    let few = prefix_has_few_steps c.args.net.now c.sources.ensures.circuit c.args.path.now c.requires.prefix in
    let small : c.if-values-line.delay ≤ MOST_DELAY = elim c.if-values-line.branch [
      | then-values-line w ↦ subst (λ n. n ≤ MOST_DELAY) (sym w.delay-is) w.rise-delay.ensures.bounded
      | else-values-line w ↦ subst (λ n. n ≤ MOST_DELAY) (sym w.delay-is) w.fall-delay.ensures.bounded
    ] in
    omega (arith, few, small, ap length c.steps-step-items.ensures, c.from-total.ensures, c.loop-step.invariant.fits, c.loop-step-test.true)

pub loop-step-preserved : goal.loop-step-preserved
loop-step-preserved c =
    let net = c.args.net.now in
    let delays = rise_fall_of net c.args.delays.now in
    let values = c.args.values.now in
    let all = c.steps-step-items.result.now in
    let place = c.loop-step.step-index in
    let step = get_or all place no_step in
    let small : c.if-values-line.delay ≤ MOST_DELAY = elim c.if-values-line.branch [
      | then-values-line w ↦ subst (λ n. n ≤ MOST_DELAY) (sym w.delay-is) w.rise-delay.ensures.bounded
      | else-values-line w ↦ subst (λ n. n ≤ MOST_DELAY) (sym w.delay-is) w.fall-delay.ensures.bounded
    ] in
    let counts : c.if-values-line.delay ≡ delays step (get_or values c.loop-step.line.0 false) = elim c.if-values-line.branch [
      | then-values-line w ↦ w.delay-is ∙ w.rise-delay.ensures.rise ∙ ap (delays step) (sym w.if-values-line.true)
      | else-values-line w ↦ w.delay-is ∙ w.fall-delay.ensures.fall ∙ ap (delays step) (sym w.if-values-line.false)
    ] in
    let whole = measured delays net values c.args.path.now.source.0 c.args.path.now.steps in record {
      fits = omega (arith, small, c.from-total.ensures, c.loop-step.invariant.fits);
      measured = subst (λ (line : LineId). IsMeasured delays net values whole (c.loop-step.total + c.from-total.result) line.0 (drop (place + 1) all))
          (sym c.line_of-line.ensures.line)
          (measured_more delays net values whole c.loop-step.total c.loop-step.line.0 c.from-total.result all place c.loop-step-test.true
          (c.from-total.ensures ∙ counts) c.loop-step.invariant.measured);
    }

pub returns-clause-length : goal.returns-clause-length
returns-clause-length c vector are =
    let net = c.args.net.now in
    let delays = rise_fall_of net c.args.delays.now in
    let path = c.args.path.now in
    let none = ap (measured delays net c.args.values.now c.loop-step.line.0)
    (drop_all c.loop-step.step-index c.steps-step-items.result.now c.loop-step-test.false) in
    let done : c.loop-step.total ≡ measured delays net c.args.values.now path.source.0 path.steps =
    omega (arith, none, c.loop-step.invariant.measured.sum) in
    done ∙ measured_is_length delays net c.args.values.now vector are path.source.0 path.steps (omega (arith, c.requires.prefix.source))
    c.requires.prefix.connects

pub returns-clause-late : goal.returns-clause-late
returns-clause-late c pair direction are meets time below =
    robust_detects_rise_fall c.args.net.now c.sources.ensures.circuit c.args.path.now direction pair c.requires.prefix meets
    (rise_fall_of c.args.net.now c.args.delays.now) time
    (subst (λ n. time <ℤ pos n) (returns-clause-length c pair.second are) below)
