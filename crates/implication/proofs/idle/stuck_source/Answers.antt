-- Where the rules leave some state, a source may start; where they leave none, each source may start in none.
use Rattle.std.proofs.Common.{ap}
use Rattle.hulls.proofs.Sets.{ne_tells}
use Rattle.state_sets.specs.declared.state.StateSet.{StateSet}
use Rattle.implication.proofs.Idling.{some_somewhere}
use Rattle.implication.proofs.idle.stuck_source.Goals as goal

pub returns-then-ne-clause-none : goal.returns-then-ne-clause-none
returns-then-ne-clause-none g c nowhere line within =
    let others = c.other_states.result in
    absurd (some_somewhere g.A.Algebra.algebra g.met.A.Algebra.laws c.args.rules.now others c.other_states.ensures.means c.other_states.ensures.within
    (λ none. ne_tells c.ne.result others.0 0 c.ne.ensures c.if-ne.true (ap (λ (s : StateSet). s.0) none)) nowhere)
