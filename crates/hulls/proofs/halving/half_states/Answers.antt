-- A state more is gathered exactly where it is in the half.
use Rattle.std.proofs.Common.{arith}
use Rattle.state_laws.specs.Halves.{IsInHalf}
use Rattle.hulls.proofs.Sets.{gathers_next}
use Rattle.hulls.proofs.halving.half_states.Goals as goal

pub loop-number-preserved : goal.loop-number-preserved
loop-number-preserved g c =
    let a = g.A.Algebra.algebra in
    gathers_next a.count (IsInHalf a c.args.kind c.args.second) c.loop-number.found c.loop-number.number
    (omega arith) c.loop-number.invariant c.is_in_half.result
    c.is_in_half.ensures.0 c.is_in_half.ensures.1
    c.with_if-found.result c.with_if-found.ensures
