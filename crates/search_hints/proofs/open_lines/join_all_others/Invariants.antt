use Rattle.state_sets.specs.States.{IsWithin}
use Rattle.search_hints.proofs.open_lines.join_all_others.Given as goal

abbrev pub invariant-loop-at : goal.invariant-loop-at
invariant-loop-at g l = IsWithin g.A.Algebra.algebra.count l.joined
