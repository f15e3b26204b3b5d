use Rattle.std.specs.Prelude.{IsTrue}
use Rattle.state_sets.specs.declared.state.State.{State}
use Rattle.state_sets.specs.States.{Has}
use Rattle.hulls.proofs.Sets.{Gathers}
use Rattle.hulls.proofs.link.linked_sources.Given as goal

abbrev pub invariant-loop-number : goal.invariant-loop-number
invariant-loop-number g l = Gathers g.A.Algebra.algebra.count l.found
    (λ s. (c : State) × Has g.A.Algebra.algebra.count l.lines c × IsTrue (g.A.Algebra.algebra.link s c)) l.number
