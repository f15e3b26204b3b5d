use Rattle.state_sets.specs.Hulls.{HasNoEmptySet}
use Rattle.hulls.specs.Settling.{IsNarrowed, IsAwake}
use Rattle.hulls.proofs.Narrowed.{work_left}
use Rattle.hulls.proofs.board.Board.settle.Given as goal

abbrev pub invariant-loop-self : goal.invariant-loop-self
invariant-loop-self g l = record {
  narrowed : IsNarrowed g.A.Algebra.algebra l.net l.conditions.kind l.conditions.steps l.initial.self l.self;
  awake : IsAwake g.A.Algebra.algebra l.net l.conditions.kind l.conditions.steps l.self;
  some : HasNoEmptySet l.net l.self.labels;
}

abbrev pub decreases-loop-self : goal.decreases-loop-self
decreases-loop-self g l = work_left g.A.Algebra.algebra.count l.self
