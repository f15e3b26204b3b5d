-- The cone that was kept aside at that place is at hand.
use Rattle.std.proofs.Common.{List, ap, subst, ◌∙◌}
use Rattle.cones.specs.declared.end_cone.EndCone.{EndCone}
use Rattle.cones.specs.KeptCones.{KeptCone, IsPlaceOf}
use Rattle.cones.proofs.cone.Cone.set_end.Goals as goal

pub returns-in-Some-clause-cone : goal.returns-in-Some-clause-cone
returns-in-Some-clause-cone c =
    let there = subst (λ (cones : List EndCone). IsPlaceOf c.args.end c.in-Some.place cones)
    (c.as_slice.ensures.value ∙ ap (λ (cone : KeptCone). cone.others) c.self.view_is) c.in-Some.ensures.of in
    c.exchange.ensures.cone c.args.net.now c.args.end c.requires.made there
