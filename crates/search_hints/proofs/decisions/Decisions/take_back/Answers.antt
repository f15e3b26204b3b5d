-- What is kept is of the same lines and gates.
use Rattle.std.proofs.Common.{◌<◌, ◌++◌, Option, ap, subst, ◌∙◌, arith}
use Rattle.std.specs.Option.{option_to_list}
use Rattle.std.proofs.lemmas.Grind.{common_steps}
use Rattle.search_hints.specs.Drafts.{Sizes}
use Rattle.search_hints.specs.declared.decisions.Decision.{Decision}
use Rattle.search_hints.proofs.Kept.{last_within, one_taken}
use Rattle.search_hints.proofs.decisions.Decisions.take_back.Goals as goal

pub invariant_of-self : goal.invariant_of-self
invariant_of-self c = grind (arith, common_steps)

pub invariant_of-self-2 : goal.invariant_of-self-2
invariant_of-self-2 c =
    let i = c.self.inside in let less = c.pop.new.self.items in
    let last = c.pop.ensures.items ∙ ap (λ (r : Option Decision). less ++ option_to_list r) c.in_ok-decision.was in
    one_taken i.draft i.made.items i.culprits i.open_at_first.items c.self.invariant less c.in_ok-decision.decision last
    c.undo_to.new.self c.undo_to.ensures c.drop_reasons.new.culprits (c.drop_reasons.ensures ∙ c.take-is_culprit.ensures)

pub invariant_of-self-then-ne : goal.invariant_of-self-then-ne
invariant_of-self-then-ne c =
    let i = c.self.inside in let less = c.pop.new.self.items in
    let last = c.pop.ensures.items ∙ ap (λ (r : Option Decision). less ++ option_to_list r) c.in_ok-decision.was in
    one_taken i.draft i.made.items i.culprits i.open_at_first.items c.self.invariant less c.in_ok-decision.decision last
    c.undo_to.new.self c.undo_to.ensures c.take-is_culprit.new.self c.take-is_culprit.ensures

pub returns-then-ne-clause-line : goal.returns-then-ne-clause-line
returns-then-ne-clause-line c =
    let i = c.self.inside in let less = c.pop.new.self.items in let decision = c.in_ok-decision.decision in
    let last = c.pop.ensures.items ∙ ap (λ (r : Option Decision). less ++ option_to_list r) c.in_ok-decision.was in
    subst (λ (s : Sizes). decision.line.0 < s.lines) c.self.view_is
    (last_within i.draft i.made.items i.culprits i.open_at_first.items c.self.invariant less decision last)
