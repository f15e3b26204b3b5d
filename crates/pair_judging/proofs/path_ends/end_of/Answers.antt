-- One step more is passed.
use Rattle.std.proofs.Common.{◌≡◌, ◌+◌, ℕ, drop, sym, ap, subst, ◌∙◌}
use Rattle.std.proofs.lemmas.List.{drop_more, drop_all}
use Rattle.pd_base.specs.declared.ids.LineId.{LineId}
use Rattle.netlist.specs.Paths.{Connects, end_of, line_after}
use Rattle.pair_judging.proofs.StepStates.{no_step}
use Rattle.pair_judging.proofs.path_ends.end_of.Goals as goal

pub line_of-line-requires : goal.line_of-line-requires
line_of-line-requires c =
    let steps = c.steps-step-items.result.now in
    let place = c.loop-step.step-index in
    let from = drop_more steps place no_step c.loop-step-test.true in
    (subst (Connects c.args.net.now c.loop-step.line.0) from c.loop-step.invariant.connects).0.in_circuit

pub loop-step-preserved : goal.loop-step-preserved
loop-step-preserved c =
    let net = c.args.net.now in
    let steps = c.steps-step-items.result.now in
    let place = c.loop-step.step-index in
    let line = c.loop-step.line.0 in
    let from = drop_more steps place no_step c.loop-step-test.true in
    let on = subst (Connects net line) from c.loop-step.invariant.connects in
    let passed = sym c.line_of-line.ensures.line in
    record {
      connects = subst (λ (l : LineId). Connects net l.0 (drop (place + 1) steps)) passed on.1;
      within = c.line_of-line.ensures.in_circuit;
      leads = subst (λ (l : LineId). line_after net l.0 (drop (place + 1) steps) ≡ end_of net c.args.path.now) passed
          (ap (line_after net line) (sym from) ∙ c.loop-step.invariant.leads);
    }

pub returns-clause-end : goal.returns-clause-end
returns-clause-end c =
    let net = c.args.net.now in
    let steps = c.steps-step-items.result.now in
    let place = c.loop-step.step-index in
    let line = c.loop-step.line in
    let at : ℕ → LineId = λ number. record { 0 = number } in
    ap at (ap (line_after net line.0) (sym (drop_all place steps c.loop-step-test.false)) ∙ c.loop-step.invariant.leads)
