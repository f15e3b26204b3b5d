use Rattle.std.proofs.Common.{◌≡◌, replicate}
use Rattle.prefix_sensitize.specs.declared.outcome.RowOutcome.TheVariants.{Unsearched}
use Rattle.prefix_sensitize.proofs.walking.unsearched.Given as goal

abbrev pub invariant-loop : goal.invariant-loop
invariant-loop l = l.outcomes.items ≡ replicate l.counter Unsearched
