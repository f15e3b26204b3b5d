use Rattle.state_laws.specs.Halves.{IsInHalf}
use Rattle.hulls.proofs.Sets.{Gathers}
use Rattle.hulls.proofs.halving.half_states.Given as goal

abbrev pub invariant-loop-number : goal.invariant-loop-number
invariant-loop-number g l =
    Gathers g.A.Algebra.algebra.count l.found (IsInHalf g.A.Algebra.algebra l.fn.kind l.fn.second) l.number
