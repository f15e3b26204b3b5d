use Rattle.hulls.proofs.Suffixes.{AreSuffixes}
use Rattle.hulls.proofs.joins.join_suffixes.Given as goal

abbrev pub invariant-loop-from : goal.invariant-loop-from
invariant-loop-from g l = AreSuffixes g.A.Algebra.algebra l.fn.op l.sets l.suffixes l.from

abbrev pub decreases-loop-from : goal.decreases-loop-from
decreases-loop-from g l = l.from
