use Rattle.hulls.proofs.Suffixes.{AreSupported}
use Rattle.hulls.proofs.joins.support_each.Given as goal

abbrev pub invariant-loop-place : goal.invariant-loop-place
invariant-loop-place g l = AreSupported g.A.Algebra.algebra l.fn.op l.sets l.target l.initial.kept l.kept l.before l.place
