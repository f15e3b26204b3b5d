-- Each set is cut to what supports the target, with the other one as the rest.
use Rattle.std.proofs.Common.{◌≡◌, ◌∷◌, [], length, ◌∙◌, subst}
use Rattle.std.proofs.lemmas.List.{length-map}
use Rattle.pd_base.specs.declared.ids.LineId.{LineId}
use Rattle.netlist.specs.declared.op.Op.{Op}
use Rattle.state_sets.specs.Labellings.{label_at}
use Rattle.hulls.specs.Passes.{PassFolds, PassSupports}
use Rattle.hulls.specs.Sets.{Means}
use Rattle.hulls.specs.GateViews.{pin_sets}
use Rattle.hulls.proofs.OneToThree.{cut_two, first_supports, second_supports, both_fold}
use Rattle.hulls.proofs.Limited.{passed_supports, passed_folds}
use Rattle.hulls.proofs.few.pass_two.Goals as goal

pub returns-clause-first : goal.returns-clause-first
returns-clause-first g c =
    let a = g.A.Algebra.algebra in let laws = g.met.A.Algebra.laws in let view = c.args.gate.now in
    let sets = pin_sets view in let target = c.args.target in let op = c.operation-op.result in
    let first = c.cut_at-first.result in let second = c.cut_at-second.result in let found = c.intersect.result in
    let two : length sets ≡ 2 = length-map view.pins.now (λ (line : LineId). label_at view.labels.now line.0) ∙ c.requires.two in
    subst (λ (o : Op). Means a.count found (PassSupports a o c.args.limits sets target 0)) c.operation-op.ensures
    (passed_supports a c.args.limits sets (first ∷ second ∷ [])
    (cut_two c.args.limits sets first second two c.cut_at-first.ensures c.cut_at-second.ensures) op target found 0
    (first_supports a laws op target first second c.supporting.result found c.supporting.ensures.supports c.intersect.ensures))

pub returns-clause-second : goal.returns-clause-second
returns-clause-second g c =
    let a = g.A.Algebra.algebra in let laws = g.met.A.Algebra.laws in let view = c.args.gate.now in
    let sets = pin_sets view in let target = c.args.target in let op = c.operation-op.result in
    let first = c.cut_at-first.result in let second = c.cut_at-second.result in let found = c.intersect-2.result in
    let two : length sets ≡ 2 = length-map view.pins.now (λ (line : LineId). label_at view.labels.now line.0) ∙ c.requires.two in
    subst (λ (o : Op). Means a.count found (PassSupports a o c.args.limits sets target 1)) c.operation-op.ensures
    (passed_supports a c.args.limits sets (first ∷ second ∷ [])
    (cut_two c.args.limits sets first second two c.cut_at-first.ensures c.cut_at-second.ensures) op target found 1
    (second_supports a laws op target first second c.supporting-2.result found c.supporting-2.ensures.supports c.intersect-2.ensures))

pub returns-clause-joined : goal.returns-clause-joined
returns-clause-joined g c =
    let a = g.A.Algebra.algebra in let laws = g.met.A.Algebra.laws in let view = c.args.gate.now in
    let sets = pin_sets view in let target = c.args.target in let op = c.operation-op.result in
    let first = c.cut_at-first.result in let second = c.cut_at-second.result in let found = c.intersect-3.result in
    let two : length sets ≡ 2 = length-map view.pins.now (λ (line : LineId). label_at view.labels.now line.0) ∙ c.requires.two in
    subst (λ (o : Op). Means a.count found (PassFolds a o c.args.limits sets target)) c.operation-op.ensures
    (passed_folds a c.args.limits sets (first ∷ second ∷ [])
    (cut_two c.args.limits sets first second two c.cut_at-first.ensures c.cut_at-second.ensures) op target found
    (both_fold a laws op target first second c.join_sets.result found c.join_sets.ensures.joins c.intersect-3.ensures))
