use Rattle.state_sets.specs.States.{IsWithin}
use Rattle.search_hints.proofs.open_lines.join_many.Given as goal

abbrev pub invariant-loop-line : goal.invariant-loop-line
invariant-loop-line g l = IsWithin g.A.Algebra.algebra.count l.joined
