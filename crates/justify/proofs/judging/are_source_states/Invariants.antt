-- The sources so far are in states of a source.
use Rattle.std.proofs.Common.{take}
use Rattle.std.specs.List.{All}
use Rattle.state_sets.specs.States.{Has}
use Rattle.pair_judging.specs.ConeStates.{state_in}
use Rattle.justify.proofs.judging.are_source_states.Given as goal

abbrev pub invariant-loop-source : goal.invariant-loop-source
invariant-loop-source g l =
    All (λ source. Has g.A.Algebra.algebra.count g.A.Algebra.algebra.sources (state_in l.states source.0)) (take l.source-index l.sources)
