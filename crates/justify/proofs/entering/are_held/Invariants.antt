-- So it is with the sources so far.
use Rattle.std.proofs.Common.{take}
use Rattle.std.specs.List.{All}
use Rattle.implication.specs.Scopes.{standing}
use Rattle.justify.specs.Growths.{IsHeldAt}
use Rattle.justify.proofs.entering.are_held.Given as goal

abbrev pub invariant-loop-entry : goal.invariant-loop-entry
invariant-loop-entry g l = All (IsHeldAt g.A.Algebra.algebra (standing l.scope) l.place) (take l.entry-index l.tried)
