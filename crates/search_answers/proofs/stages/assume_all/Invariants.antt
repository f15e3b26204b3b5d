-- The scope goes on from where it began.
use Rattle.implication.specs.Scopes.{IsSameScope, standing}
use Rattle.implication.specs.Clients.{ExtendsStanding}
use Rattle.search_answers.proofs.stages.assume_all.Given as goal

abbrev pub invariant-loop-half : goal.invariant-loop-half
invariant-loop-half g l = IsSameScope l.initial.scope l.scope × ExtendsStanding (standing l.initial.scope) (standing l.scope)
