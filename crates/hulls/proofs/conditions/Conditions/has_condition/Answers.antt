-- The mark of the gate stands for its condition.
use Rattle.std.proofs.Common.{◌≡◌, ◌≢◌, ◌<◌, ◌↔◌, ◌==◌, None, Option, ℕ, not, IsTrue, length, sym, ap, ◌∙◌, subst₂, arith}
use Rattle.std.proofs.lemmas.List.{get_or_default}
use Rattle.state_sets.specs.declared.condition.Condition.{Condition}
use Rattle.state_sets.specs.Hulls.{condition_at}
use Rattle.hulls.specs.Marks.{mark_at}
use Rattle.hulls.specs.Conditions.{Entered}
use Rattle.hulls.proofs.Marks.{condition_marked, some_marked}
use Rattle.hulls.proofs.conditions.Conditions.has_condition.Goals as goal

pub returns : goal.returns
returns c =
    let i = c.self.inside in let marks = i.marks.items in let gate = c.args.gate.0 in
    let within : gate < length marks = let e = ap (λ (e : Entered). e.gates) c.self.view_is in let r = c.requires in omega arith in
    let mark : c.index.result.now ≡ mark_at i.steps.items gate =
    c.index.ensures ∙ get_or_default marks gate c.index.result.now 0 within ∙ c.self.invariant.each gate within in
    subst₂ (λ (n : ℕ) (condition : Option Condition). IsTrue (not (n == 0)) ↔ (condition ≢ None)) (sym mark)
    (sym (condition_marked i.kind i.steps.items gate) ∙ ap (λ (e : Entered). condition_at e.kind e.steps gate) c.self.view_is)
    (some_marked i.kind (mark_at i.steps.items gate))
