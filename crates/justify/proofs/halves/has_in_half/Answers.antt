-- The set shares a state with the half exactly where it has one of the half's.
use Rattle.implication.proofs.AssumedHalves.{shares_half}
use Rattle.justify.proofs.halves.has_in_half.Goals as goal

pub returns : goal.returns
returns g c =
    shares_half g.A.Algebra.algebra g.met.A.Algebra.laws c.args.set c.half_states.result c.intersect.result c.args.kind c.args.second c.ne.result
    c.half_states.ensures.means c.half_states.ensures.within c.intersect.ensures c.ne.ensures
