use Rattle.std.proofs.Common.{◌≡◌}
use Rattle.prefix_sensitize.specs.declared.outcome.RowOutcome.TheVariants.{Proved}
use Rattle.prefix_sensitize.specs.Settling.{HaveOutcome}
use Rattle.prefix_sensitize.proofs.settling.add_proof.Given as goal

-- the rows on the places so far have the proof as their outcome; the proofs stay
abbrev pub invariant-loop-at : goal.invariant-loop-at
invariant-loop-at l = record {
  rows : HaveOutcome l.order l.place l.at (Proved l.index) l.fn.found.outcomes.items l.found.outcomes.items;
  proofs : l.found.proofs.items ≡ l.initial.found.proofs.items;
}
