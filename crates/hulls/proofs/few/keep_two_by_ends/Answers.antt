-- What the two passes find is united.
use Rattle.std.proofs.Common.{◌<◌, sym, subst}
use Rattle.std.proofs.lemmas.List.{length-map}
use Rattle.pd_base.specs.declared.ids.LineId.{LineId}
use Rattle.netlist.specs.Gates.{op_of}
use Rattle.state_sets.specs.Labellings.{label_at}
use Rattle.hulls.specs.Passes.{PassSupports}
use Rattle.hulls.specs.GateViews.{pin_sets}
use Rattle.hulls.proofs.Sets.{united}
use Rattle.hulls.proofs.Passing.{step_pin, step_gate}
use Rattle.hulls.proofs.few.keep_two_by_ends.Goals as goal

pub returns : goal.returns
returns g c =
    let a = g.A.Algebra.algebra in let laws = g.met.A.Algebra.laws in let view = c.args.gate.now in
    let sets = pin_sets view in let target = c.uninverted-target.result in
    let at_zero = c.args.at_zero in let at_one = c.args.at_one in
    let zero = c.pass_two-zero.result in let one = c.pass_two-one.result in
    let on_path = subst (λ n. c.args.step.pin < n)
    (sym (length-map view.pins.now (λ (line : LineId). label_at view.labels.now line.0))) c.requires.pin in
    record {
      first = step_pin a laws view.kind sets view.own target c.uninverted-target.ensures.means c.args.step on_path at_zero at_one
          c.requires.zero c.requires.one zero.first c.unite.result 0 c.pass_two-zero.ensures.first
          (united a.count zero.first one.first c.unite.result (PassSupports a (op_of view.kind) at_one sets target 0)
          c.unite.ensures c.pass_two-one.ensures.first);
      second = step_pin a laws view.kind sets view.own target c.uninverted-target.ensures.means c.args.step on_path at_zero at_one
          c.requires.zero c.requires.one zero.second c.unite-2.result 1 c.pass_two-zero.ensures.second
          (united a.count zero.second one.second c.unite-2.result (PassSupports a (op_of view.kind) at_one sets target 1)
          c.unite-2.ensures c.pass_two-one.ensures.second);
      given = step_gate a laws view.kind sets view.own target c.uninverted-target.ensures.means c.args.step on_path
          at_zero at_one c.requires.zero c.requires.one
          zero.joined one.joined c.unite-3.result c.uninverted.result
          c.pass_two-zero.ensures.joined c.pass_two-one.ensures.joined c.unite-3.ensures c.uninverted.ensures.means;
    }
