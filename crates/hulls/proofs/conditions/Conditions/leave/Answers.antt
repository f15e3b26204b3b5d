-- The mark of the last step's gate is taken away.
use Rattle.std.proofs.Common.{ℕ, sym, subst}
use Rattle.std.proofs.Math.ListN.{set}
use Rattle.hulls.specs.Conditions.{IsMarked}
use Rattle.hulls.proofs.Marks.{marks_left}
use Rattle.hulls.proofs.conditions.Conditions.leave.Goals as goal

pub invariant_of-self : goal.invariant_of-self
invariant_of-self c =
    let inside = c.self.inside in
    let step = c.in-Some.step in
    subst (λ (n : ℕ). IsMarked (set inside.marks.items step.gate.0 0) inside.room n c.pop.new.self.items) (sym c.pop.ensures.capacity)
    (marks_left inside.marks.items inside.room _ c.pop.new.self.items step
    (subst (IsMarked inside.marks.items inside.room _) c.in-Some.ensures.items c.self.invariant))
