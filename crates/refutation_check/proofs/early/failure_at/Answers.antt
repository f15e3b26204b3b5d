-- The side fails with the line, or alone.
use Rattle.std.proofs.Common.{refl, sym, ap, subst, ◌∙◌, not}
use Rattle.std.proofs.lemmas.Bool.{false≢true}
use Rattle.netlist.specs.declared.kind.GateKind.{GateKind}
use Rattle.netlist.specs.declared.side_conditions.SideCondition.{SideCondition}
use Rattle.netlist.specs.Conditions.{Allows, side_condition}
use Rattle.pair_judging.specs.ConeStates.{state_in}
use Rattle.refutation_check.proofs.FailingSteps.{alone, both, failing_there, side_there, with_line}
use Rattle.refutation_check.proofs.early.failure_at.Goals as goal

pub returns-then-allows : goal.returns-then-allows
returns-then-allows g c =
    let a = g.A.Algebra.algebra in let net = c.args.net.now in let kind = c.args.kind in let step = c.args.step in
    let states = c.args.states.now in let side = c.in-Some.side in let last = c.last-last.result in
    with_line a g.met.A.Algebra.laws net kind c.args.line.0 step states side last c.last-last.ensures
    (failing_there a net kind step states side last c.kind-gate.result c.side_condition-condition.result c.pins.result.now c.kind-gate.ensures
    c.side_condition-condition.ensures c.pins.ensures.pins c.in-Some.ensures)
    c.requires.line (side_there a net kind step states side last c.side_condition-condition.result c.pins.result.now c.pins.ensures.in_circuit c.in-Some.ensures)
    _ refl refl

pub returns-else-allows : goal.returns-else-allows
returns-else-allows g c =
    let a = g.A.Algebra.algebra in let net = c.args.net.now in let kind = c.args.kind in let step = c.args.step in
    let states = c.args.states.now in let side = c.in-Some.side in let last = c.last-last.result in
    let P : SideCondition → Type 0 = λ row. Allows row (a.last (state_in states side.0)) (a.steady (state_in states side.0)) in
    let asks = c.side_condition-other.ensures ∙ ap (λ (k : GateKind). side_condition kind k (not last)) c.kind-gate.ensures in
    alone a g.met.A.Algebra.laws net kind c.args.line.0 step states side last c.last-last.ensures
    (failing_there a net kind step states side last c.kind-gate.result c.side_condition-condition.result c.pins.result.now c.kind-gate.ensures
    c.side_condition-condition.ensures c.pins.ensures.pins c.in-Some.ensures)
    (side_there a net kind step states side last c.side_condition-condition.result c.pins.result.now c.pins.ensures.in_circuit c.in-Some.ensures)
    (λ allowed. false≢true (sym c.if-allows.false
    ∙ c.allows.ensures.1 (both (Allows c.side_condition-other.result) (a.last (state_in states side.0)) (a.steady (state_in states side.0)) c.last.result
    c.is_steady.result (sym c.last.ensures) (sym c.is_steady.ensures) (subst P (sym asks) allowed))))
    _ refl refl
