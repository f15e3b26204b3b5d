-- The mark of the gate stands for its condition.
use Rattle.std.proofs.Common.{◌<◌, length, sym, ap, ◌∙◌, arith}
use Rattle.std.proofs.lemmas.List.{get_or_default}
use Rattle.state_sets.specs.Hulls.{condition_at}
use Rattle.hulls.specs.Marks.{marked_condition}
use Rattle.hulls.specs.Conditions.{Entered}
use Rattle.hulls.proofs.Marks.{condition_marked}
use Rattle.hulls.proofs.conditions.Conditions.at.Goals as goal

pub returns : goal.returns
returns c =
    let marks = c.self.inside.marks.items in
    let gate = c.args.gate.0 in
    let within : gate < length marks = let e = ap (λ (e : Entered). e.gates) c.self.view_is in let r = c.requires in omega arith in
    c.condition_of.ensures
    ∙ ap (marked_condition c.self.inside.kind)
    (c.index.ensures ∙ get_or_default marks gate c.index.result.now 0 within ∙ c.self.invariant.each gate within)
    ∙ sym (condition_marked c.self.inside.kind c.self.inside.steps.items gate)
    ∙ ap (λ (e : Entered). condition_at e.kind e.steps gate) c.self.view_is
