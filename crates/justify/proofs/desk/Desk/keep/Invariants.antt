-- The states stay, and so does the number of what is liked.
use Rattle.std.proofs.Common.{◌≡◌, length}
use Rattle.pair_judging.specs.ConeStates.{AreStates}
use Rattle.justify.proofs.desk.Desk.keep.Given as goal

abbrev pub invariant-loop-line : goal.invariant-loop-line
invariant-loop-line g l = record {
  within : AreStates g.A.Algebra.algebra.count l.states.items;
  states : l.states.items ≡ l.initial.states.items;
  liked : length l.liked.items ≡ length l.initial.liked.items;
}
