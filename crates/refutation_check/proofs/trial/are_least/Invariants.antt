use Rattle.std.proofs.Common.{◌<◌, take}
use Rattle.std.specs.List.{All}
use Rattle.netlist.specs.Circuit.{source_count}
use Rattle.state_sets.specs.Labellings.{label_at}
use Rattle.pair_judging.specs.ConeStates.{state_in}
use Rattle.pair_judging.specs.LeastStates.{IsTakenOf}
use Rattle.refutation_check.proofs.trial.are_least.Given as goal

-- the sources among the lines before this one are in their least states
abbrev pub invariant-loop-line : goal.invariant-loop-line
invariant-loop-line g l =
    All (λ line. line.0 < source_count l.net → IsTakenOf g.A.Algebra.algebra.count (label_at l.labels line.0) (state_in l.states line.0))
    (take l.line-index l.lines)
