-- What the one pass finds, read with no limits.
use Rattle.std.proofs.Common.{None, subst, arith}
use Rattle.netlist.specs.Gates.{op_of}
use Rattle.hulls.specs.Sets.{Means, set_at}
use Rattle.hulls.specs.Passes.{PassFolds, PassSupports}
use Rattle.hulls.specs.GateViews.{pin_sets}
use Rattle.hulls.proofs.Sets.{added_to_none}
use Rattle.hulls.proofs.Passing.{free_pin, free_gate}
use Rattle.hulls.proofs.collecting.collect_freely.Goals as goal

pub returns-clause-at_pins : goal.returns-clause-at_pins
returns-clause-at_pins g c = λ pin inside.
    let a = g.A.Algebra.algebra in let target = c.uninverted-target.result in
    let sets = pin_sets c.args.gate.now in
    let old = set_at c.clear.new.sets pin in let kept = set_at c.pass-given.new.kept pin in
    free_pin a g.met.A.Algebra.laws c.args.gate.now.kind sets c.args.gate.now.own target c.uninverted-target.ensures.means
    None (λ choice each. tt) kept pin
    (subst (λ limits. Means a.count kept (PassSupports a (op_of c.args.gate.now.kind) limits sets target pin))
    c.no_limits.ensures.limits
    (added_to_none a.count old kept (PassSupports a (op_of c.args.gate.now.kind) c.no_limits.result sets target pin)
    (c.clear.ensures pin (omega arith)) (c.pass-given.ensures.at_pins pin inside)))

pub returns-clause-at_gate : goal.returns-clause-at_gate
returns-clause-at_gate g c =
    let a = g.A.Algebra.algebra in let target = c.uninverted-target.result in
    let sets = pin_sets c.args.gate.now in
    free_gate a g.met.A.Algebra.laws c.args.gate.now.kind sets c.args.gate.now.own target c.uninverted-target.ensures.means
    None (λ choice each. tt) c.pass-given.result c.uninverted.result
    (subst (λ limits. Means a.count c.pass-given.result (PassFolds a (op_of c.args.gate.now.kind) limits sets target))
    c.no_limits.ensures.limits c.pass-given.ensures.all)
    c.uninverted.ensures.means
