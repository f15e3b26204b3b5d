-- The last assumption taken back: what stood before it stands again.
use Rattle.std.proofs.Common.{◌++◌, Option, vec_capacity, ap, ◌∙◌, arith}
use Rattle.std.proofs.lemmas.Grind.{common_steps}
use Rattle.std.specs.Option.{option_to_list}
use Rattle.implication.specs.declared.assumption.Assumption.{Assumption}
use Rattle.implication.specs.declared.before.Before.{Before}
use Rattle.implication.proofs.Keeping.{back_left, taken_back}
use Rattle.implication.proofs.engine.Engine.take_back.Goals as goal

pub put_back-requires : goal.put_back-requires
put_back-requires g c =
    back_left g.A.Algebra.algebra c.self.invariant.0 c.pop-2.new.self.items c.in-Some-pop.entry
    (c.pop-2.ensures.items ∙ ap (λ (r : Option Assumption). c.pop-2.new.self.items ++ option_to_list r) c.in-Some-pop.is)
    c.pop.new.self.items c.in-Some.before
    (c.pop.ensures.items ∙ ap (λ (r : Option Before). c.pop.new.self.items ++ option_to_list r) c.in-Some.is)

pub invariant_of-self-2 : goal.invariant_of-self-2
invariant_of-self-2 g c = (
  taken_back g.A.Algebra.algebra c.self.invariant.0 c.pop-2.new.self.items c.in-Some-pop.entry
      (c.pop-2.ensures.items ∙ ap (λ (r : Option Assumption). c.pop-2.new.self.items ++ option_to_list r) c.in-Some-pop.is)
      c.pop.new.self.items c.in-Some.before
      (c.pop.ensures.items ∙ ap (λ (r : Option Before). c.pop.new.self.items ++ option_to_list r) c.in-Some.is)
      c.undo_to.new.self c.undo_to.ensures.labels c.undo_to.ensures.notes c.undo_to.ensures.waiting c.undo_to.ensures.inside c.undo_to.ensures.links
      c.put_back.new.left.items c.put_back.ensures c.leave_step.new.conditions c.leave_step.ensures (vec_capacity c.pop-2.new.self)
      (vec_capacity c.pop.new.self) c.pop-2.ensures.capacity c.pop.ensures.capacity c.self.inside.closings,
  c.self.invariant.1,
)

pub invariant_of-self : goal.invariant_of-self
invariant_of-self g c = grind (arith, common_steps)

pub invariant_of-self-in_default-pop : goal.invariant_of-self-in_default-pop
invariant_of-self-in_default-pop g c = grind (arith, common_steps)

pub returns-in_default : goal.returns-in_default
returns-in_default g c = grind (arith, common_steps)

pub returns-in_default-pop : goal.returns-in_default-pop
returns-in_default-pop g c = grind (arith, common_steps)

pub returns : goal.returns
returns g c = grind (arith, common_steps)
