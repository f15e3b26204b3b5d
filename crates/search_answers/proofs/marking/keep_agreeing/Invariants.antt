-- The scope goes on from where it began.
use Rattle.std.proofs.Common.{◌≤◌}
use Rattle.implication.specs.Scopes.{IsSameScope, standing}
use Rattle.implication.specs.Clients.{ExtendsStanding}
use Rattle.search_answers.proofs.marking.keep_agreeing.Given as goal

abbrev pub invariant-loop-choice : goal.invariant-loop-choice
invariant-loop-choice g l = IsSameScope l.initial.scope l.scope × ExtendsStanding (standing l.initial.scope) (standing l.scope)
    × (l.agreeing ≤ l.choice-index)
