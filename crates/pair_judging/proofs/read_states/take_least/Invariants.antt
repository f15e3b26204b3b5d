use Rattle.std.proofs.Common.{◌≡◌, take, length}
use Rattle.state_sets.specs.Labellings.{label_at}
use Rattle.pair_judging.specs.ConeStates.{AreStates}
use Rattle.pair_judging.specs.LeastStates.{IsTakenOf}
use Rattle.pair_judging.proofs.Taking.{no_state, AreDue}
use Rattle.pair_judging.proofs.read_states.take_least.Given as goal

-- the sources before this one are in the states that are due
abbrev pub invariant-loop-source : goal.invariant-loop-source
invariant-loop-source g l = record {
  places : length l.states ≡ length l.initial.states;
  below : AreStates g.A.Algebra.algebra.count l.states;
  due : AreDue no_state (λ source state. IsTakenOf g.A.Algebra.algebra.count (label_at l.labels source) state) (take l.source-index l.sources) l.states;
}
