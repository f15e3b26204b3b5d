use Rattle.std.proofs.Common.{take}
use Rattle.pair_judging.specs.Judged.{LinksPass}
use Rattle.pair_judging.proofs.judging.failing_link.Given as goal

-- the states of the sources before this one may be linked
abbrev pub invariant-loop-source : goal.invariant-loop-source
invariant-loop-source g l = LinksPass g.A.Algebra.algebra l.links (take l.source-index l.sources) l.states
