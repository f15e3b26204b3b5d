-- The step's gate is marked.
use Rattle.std.proofs.Common.{◌+◌, length, sym, ap, ◌∙◌, subst₂, arith}
use Rattle.std.proofs.Math.ListN.{set}
use Rattle.state_sets.specs.Hulls.{condition_at}
use Rattle.hulls.specs.Conditions.{Entered, IsMarked}
use Rattle.hulls.proofs.Marks.{pass_by, marks_entered}
use Rattle.hulls.proofs.conditions.Conditions.enter.Goals as goal

pub invariant_of-self : goal.invariant_of-self
invariant_of-self c =
    let inside = c.self.inside in
    let step = c.args.step in
    subst₂ (IsMarked (set inside.marks.items step.gate.0 (step.pin + 1)) inside.room)
    (sym c.push_reserved.ensures.capacity) (sym c.push_reserved.ensures.items)
    (marks_entered inside.marks.items inside.room _ inside.steps.items step c.self.invariant
    (pass_by inside.kind inside.steps.items step.gate.0
    (ap (λ (e : Entered). condition_at e.kind e.steps step.gate.0) c.self.view_is ∙ c.requires.first))
    (let e = ap (λ (e : Entered). e.gates) c.self.view_is in let r = c.requires.gate in omega arith)
    (let e = ap (λ (e : Entered). e.room) c.self.view_is in let f = ap (λ (e : Entered). length e.steps) c.self.view_is in
    let r = c.requires.room in omega arith))
