-- In each lane a step's sides are judged, and then the steps behind it decide.
use Rattle.std.proofs.Common.{◌≡◌, ℕ, ◌+◌, List, drop, get_or, ap, sym, subst, arith}
use Rattle.pd_base.specs.declared.ids.LineId.{LineId}
use Rattle.pd_base.specs.declared.ids.PinRef.{PinRef}
use Rattle.pd_base.specs.Target.{target_of}
use Rattle.netlist.specs.Circuit.{gate_line}
use Rattle.netlist.specs.Conditions.{Launches, Meets, SidesMeet}
use Rattle.netlist.specs.Paths.{Connects}
use Rattle.netlist.specs.Pins.{IsPinOn}
use Rattle.std.proofs.lemmas.List.{drop_more}
use Rattle.test_grade.proofs.GradedPaths.{launched_pair, one_step}
use Rattle.test_grade.proofs.grading.meeting_lanes.Goals as goal

-- what is read where there is no step
abbrev no_step : PinRef
no_step = record { gate = record { 0 = 0 }; pin = 0 }

pub loop-step-init : goal.loop-step-init
loop-step-init c =
    let net = c.args.net.now in
    let path = c.args.path.now in
    let line = c.source-line.result.0 in
    let steps = c.steps-step-items.result.now in
    let source : line ≡ path.source.0 = ap (λ (l : LineId). l.0) c.source-line.ensures in
    record {
      within = omega arith;
      connects = subst (λ at. Connects net at steps) (sym source) (subst (Connects net path.source.0) (sym c.steps-step-items.ensures) c.requires.prefix.connects);
      same = λ lane pair within under.
          let launched = launched_pair net pair c.args.direction line _ _ (omega arith)
          (under.values.each line (omega arith)) (under.steady.each line (omega arith)) in
          let told = c.launched-lanes.ensures lane within in
          let meet = λ (at : ℕ) (l : List PinRef). SidesMeet net c.args.kind pair at l in (
            λ both. record {
              launches = subst (Launches pair c.args.direction) source (launched.0 (told.0 both.0));
              sides = subst (meet path.source.0) c.steps-step-items.ensures (subst (λ at. meet at steps) source both.1);
            },
            λ meets. (
              told.1 (launched.1 (subst (Launches pair c.args.direction) (sym source) meets.launches)),
              subst (λ at. meet at steps) (sym source) (subst (meet path.source.0) (sym c.steps-step-items.ensures) meets.sides),
            ),
          );
    }

pub loop-step-preserved : goal.loop-step-preserved
loop-step-preserved c =
    let net = c.args.net.now in
    let steps = c.steps-step-items.result.now in
    let place = c.loop-step.step-index in
    let step = get_or steps place no_step in
    let line = c.loop-step.line.0 in
    let turn = c.loop-step.invariant in
    let reached : c.line_of-line.result.0 ≡ gate_line net step.gate.0 = ap (λ (l : LineId). l.0) c.line_of-line.ensures.line in
    let from : IsPinOn net step line × Connects net (gate_line net step.gate.0) (drop (place + 1) steps) =
    subst (Connects net line) (drop_more steps place no_step c.loop-step-test.true) turn.connects in
    record {
      within = c.line_of-line.ensures.in_circuit;
      connects = subst (λ at. Connects net at (drop (place + 1) steps)) (sym reached) from.1;
      same = λ lane pair within under.
          one_step net c.args.kind pair (Meets net (target_of c.args.path.now c.args.direction c.args.kind) pair) steps place line
          c.line_of-line.result.0 no_step lane c.loop-step.lanes c.sides_allowed-lanes.result c.loop-step-test.true reached
          (c.sides_allowed-lanes.ensures lane pair within under) (turn.same lane pair within under);
    }
