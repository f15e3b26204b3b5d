-- Where nothing is within the limit at the on-path pin, there is no choice.
use Rattle.std.proofs.Common.{◌<◌, refl, sym, subst}
use Rattle.std.proofs.lemmas.List.{length-map}
use Rattle.pd_base.specs.declared.ids.LineId.{LineId}
use Rattle.netlist.specs.Gates.{op_of}
use Rattle.state_sets.specs.Labellings.{label_at}
use Rattle.hulls.specs.Sets.{set_at}
use Rattle.hulls.specs.GateViews.{pin_sets}
use Rattle.hulls.proofs.Limited.{none_supports, none_folds}
use Rattle.hulls.proofs.Narrowed.{is_none}
use Rattle.hulls.proofs.collecting.pass_on_path.Goals as goal

pub returns-then-eq-clause-at_pins : goal.returns-then-eq-clause-at_pins
returns-then-eq-clause-at_pins g c = λ pin inside.
    let view = c.args.gate.now in let cut = c.cut_at.result in
    none_supports g.A.Algebra.algebra c.args.limits (pin_sets view)
    (subst (λ n. c.args.limits.on_path < n)
    (sym (length-map view.pins.now (λ (line : LineId). label_at view.labels.now line.0))) c.requires.pin)
    cut c.cut_at.ensures (is_none c.eq.result cut cut c.eq.ensures c.if-eq.true refl)
    (op_of view.kind) c.args.target (set_at c.args.kept.now pin) pin

pub returns-then-eq-clause-all : goal.returns-then-eq-clause-all
returns-then-eq-clause-all g c =
    let view = c.args.gate.now in let cut = c.cut_at.result in
    none_folds g.A.Algebra.algebra c.args.limits (pin_sets view)
    (subst (λ n. c.args.limits.on_path < n)
    (sym (length-map view.pins.now (λ (line : LineId). label_at view.labels.now line.0))) c.requires.pin)
    cut c.cut_at.ensures (is_none c.eq.result cut cut c.eq.ensures c.if-eq.true refl)
    (op_of view.kind) c.args.target
