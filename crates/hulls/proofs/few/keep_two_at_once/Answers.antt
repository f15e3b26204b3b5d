-- What the one pass finds.
use Rattle.std.proofs.Common.{◌<◌, sym, subst}
use Rattle.std.proofs.lemmas.List.{length-map}
use Rattle.pd_base.specs.declared.ids.LineId.{LineId}
use Rattle.state_sets.specs.Labellings.{label_at}
use Rattle.hulls.specs.GateViews.{pin_sets}
use Rattle.hulls.proofs.Passing.{aside_pin, aside_gate}
use Rattle.hulls.proofs.few.keep_two_at_once.Goals as goal

pub returns : goal.returns
returns g c =
    let a = g.A.Algebra.algebra in let laws = g.met.A.Algebra.laws in let view = c.args.gate.now in
    let sets = pin_sets view in let target = c.uninverted-target.result in let found = c.pass_two-found.result in
    let limits = c.limits_aside.result in let are = c.limits_aside.ensures in
    let on_path = subst (λ n. c.args.step.pin < n)
    (sym (length-map view.pins.now (λ (line : LineId). label_at view.labels.now line.0))) c.requires.pin in
    record {
      first = aside_pin a laws view.kind sets view.own target c.uninverted-target.ensures.means c.args.step on_path c.args.sides
          c.requires.sides limits are.on_path are.at_on_path are.sides found.first 0 c.pass_two-found.ensures.first;
      second = aside_pin a laws view.kind sets view.own target c.uninverted-target.ensures.means c.args.step on_path c.args.sides
          c.requires.sides limits are.on_path are.at_on_path are.sides found.second 1 c.pass_two-found.ensures.second;
      given = aside_gate a laws view.kind sets view.own target c.uninverted-target.ensures.means c.args.step on_path c.args.sides
          c.requires.sides limits are.on_path are.at_on_path are.sides found.joined c.uninverted.result
          c.pass_two-found.ensures.joined c.uninverted.ensures.means;
    }
