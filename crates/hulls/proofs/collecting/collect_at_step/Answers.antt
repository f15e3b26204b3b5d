-- What the two passes find.
use Rattle.std.proofs.Common.{◌<◌, sym, subst, arith}
use Rattle.std.proofs.lemmas.List.{length-map}
use Rattle.pd_base.specs.declared.ids.LineId.{LineId}
use Rattle.state_sets.specs.Labellings.{label_at}
use Rattle.netlist.specs.Gates.{op_of}
use Rattle.hulls.specs.Passes.{PassSupports}
use Rattle.hulls.specs.Sets.{set_at}
use Rattle.hulls.specs.GateViews.{pin_sets}
use Rattle.hulls.proofs.Sets.{added_to_none}
use Rattle.hulls.proofs.Passing.{step_pin, step_gate}
use Rattle.hulls.proofs.collecting.collect_at_step.Goals as goal

pub returns-clause-at_pins : goal.returns-clause-at_pins
returns-clause-at_pins g c = λ pin inside.
    let a = g.A.Algebra.algebra in let target = c.uninverted-target.result in
    let sets = pin_sets c.args.gate.now in
    let zero = c.limits_of-at_zero.result in let one = c.limits_of-at_one.result in
    let old = set_at c.clear.new.sets pin in let mid = set_at c.pass_on_path-zero.new.kept pin in
    let kept = set_at c.pass_on_path-one.new.kept pin in
    step_pin a g.met.A.Algebra.laws c.args.gate.now.kind sets c.args.gate.now.own target c.uninverted-target.ensures.means c.args.step
    (subst (λ n. c.args.step.pin < n) (sym (length-map c.args.gate.now.pins.now (λ (line : LineId). label_at c.args.gate.now.labels.now line.0))) c.requires.pin)
    zero one c.limits_of-at_zero.ensures c.limits_of-at_one.ensures mid kept pin
    (added_to_none a.count old mid (PassSupports a (op_of c.args.gate.now.kind) zero sets target pin)
    (c.clear.ensures pin (omega arith)) (c.pass_on_path-zero.ensures.at_pins pin inside))
    (c.pass_on_path-one.ensures.at_pins pin inside)

pub returns-clause-at_gate : goal.returns-clause-at_gate
returns-clause-at_gate g c =
    let a = g.A.Algebra.algebra in let target = c.uninverted-target.result in
    let sets = pin_sets c.args.gate.now in
    let zero = c.limits_of-at_zero.result in let one = c.limits_of-at_one.result in
    step_gate a g.met.A.Algebra.laws c.args.gate.now.kind sets c.args.gate.now.own target c.uninverted-target.ensures.means c.args.step
    (subst (λ n. c.args.step.pin < n) (sym (length-map c.args.gate.now.pins.now (λ (line : LineId). label_at c.args.gate.now.labels.now line.0))) c.requires.pin)
    zero one c.limits_of-at_zero.ensures c.limits_of-at_one.ensures c.pass_on_path-zero.result c.pass_on_path-one.result c.unite.result
    c.uninverted.result
    c.pass_on_path-zero.ensures.all c.pass_on_path-one.ensures.all c.unite.ensures c.uninverted.ensures.means
