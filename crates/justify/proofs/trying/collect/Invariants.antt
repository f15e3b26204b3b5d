-- Those of the sources so far that are told are listed.
use Rattle.std.proofs.Common.{take}
use Rattle.implication.specs.Scopes.{standing}
use Rattle.justify.specs.Trying.{AreTriedIn}
use Rattle.justify.proofs.trying.collect.Given as goal

abbrev pub invariant-loop-source : goal.invariant-loop-source
invariant-loop-source g l = AreTriedIn (standing l.scope) (take l.source-index l.sources) l.states l.tried.items
