-- The cone at that place and the one at hand are exchanged.
use Rattle.std.proofs.Common.{◌≡◌, ◌<◌, length, Option, Some, get_or, set, sym, subst, ◌∙◌}
use Rattle.std.specs.Prelude.{IfSome}
use Rattle.pd_base.specs.declared.ids.LineId.{LineId}
use Rattle.cones.specs.declared.end_cone.EndCone.{EndCone}
use Rattle.cones.specs.KeptCones.{KeptCone, IsConeAt, IsConeFor, IsPlaceOf}
use Rattle.cones.proofs.Keeping.{exchanged, seen_with}
use Rattle.cones.proofs.cone.Cone.exchange.Goals as goal

pub returns-clause-made : goal.returns-clause-made
returns-clause-made c = λ circuit made.
    let i = c.self.inside in
    let held : IsConeFor circuit _ = subst (IsConeFor circuit) (sym c.self.view_is) made in
    let stood = get_or i.others.items c.args.place c.index_mut.result.now in
    let inside = subst (λ (cone : KeptCone). c.args.place < length cone.others) (sym c.self.view_is) c.requires in
    subst (λ (x : EndCone). IsConeFor circuit (seen_with x (set i.others.items c.args.place c.swap.new.y) i.links i.order.items i.ranks.items))
    (sym (c.swap.ensures.x_after ∙ c.index_mut.ensures.value))
    (subst (λ (y : EndCone). IsConeFor circuit (seen_with stood (set i.others.items c.args.place y) i.links i.order.items i.ranks.items))
    (sym c.swap.ensures.y_after)
    (exchanged circuit i.links i.order.items i.ranks.items i.current i.others.items held c.args.place c.index_mut.result.now inside))

pub returns-clause-cone : goal.returns-clause-cone
returns-clause-cone c = λ circuit end made there.
    let i = c.self.inside in
    let is = subst (λ (cone : KeptCone). IsPlaceOf end c.args.place cone.others) (sym c.self.view_is) there in
    let after = seen_with c.swap.new.x (set i.others.items c.args.place c.swap.new.y) i.links i.order.items i.ranks.items in
    subst (λ (e : Option LineId). IfSome e (λ own. IsConeAt circuit own.0 after))
    (subst (λ (x : EndCone). x.end ≡ Some end) (sym (c.swap.ensures.x_after ∙ c.index_mut.ensures.value)) (is c.index_mut.result.now))
    (returns-clause-made c circuit made).kept
