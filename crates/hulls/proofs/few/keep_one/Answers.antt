-- A pass without limits finds all choices at one pin.
use Rattle.std.proofs.Common.{◌≡◌, ◌<◌, length, [], ◌∷◌, ◌∙◌, subst}
use Rattle.std.specs.Option.{IfSome}
use Rattle.std.proofs.lemmas.List.{length-map}
use Rattle.pd_base.specs.declared.ids.LineId.{LineId}
use Rattle.netlist.specs.Gates.{op_of}
use Rattle.state_sets.specs.Labellings.{label_at}
use Rattle.hulls.specs.declared.limits.Limits.{Limits}
use Rattle.hulls.specs.Limits.{AreCut}
use Rattle.hulls.specs.Passes.{all_limits}
use Rattle.hulls.specs.GateViews.{pin_sets}
use Rattle.hulls.proofs.OneToThree.{meets_at_one, cut_one, alone_supports, alone_folds}
use Rattle.hulls.proofs.Limited.{passed_supports, passed_folds}
use Rattle.hulls.proofs.Passing.{free_pin, free_gate}
use Rattle.hulls.proofs.few.keep_one.Goals as goal

pub returns : goal.returns
returns g c =
    let a = g.A.Algebra.algebra in let laws = g.met.A.Algebra.laws in let view = c.args.gate.now in
    let sets = pin_sets view in let target = c.uninverted-target.result in
    let one : length sets ≡ 1 = length-map view.pins.now (λ (line : LineId). label_at view.labels.now line.0) ∙ c.requires.one in
    let set = c.cut_at.result in let found = c.intersect-first.result in
    let cut = subst (λ (limits : Limits). AreCut limits sets (set ∷ [])) c.no_limits.ensures.limits
    (cut_one c.no_limits.result sets set one c.cut_at.ensures) in
    let meets = meets_at_one a view.kind sets c.args.condition one
    (subst (λ n. IfSome c.args.condition (λ s. s.pin < n)) c.requires.one c.requires.pin) in
    record {
      first = free_pin a laws view.kind sets view.own target c.uninverted-target.ensures.means c.args.condition meets found 0
          (passed_supports a (all_limits a.count) sets (set ∷ []) cut (op_of view.kind) target found 0
          (alone_supports a laws (op_of view.kind) target set found c.intersect-first.ensures));
      given = free_gate a laws view.kind sets view.own target c.uninverted-target.ensures.means c.args.condition meets found
          c.uninverted.result
          (passed_folds a (all_limits a.count) sets (set ∷ []) cut (op_of view.kind) target found
          (alone_folds a laws (op_of view.kind) target set found c.intersect-first.ensures)) c.uninverted.ensures.means;
    }
