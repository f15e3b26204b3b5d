use Rattle.std.proofs.Common.{◌≡◌, ◌<◌, ℕ}
use Rattle.five_valued.specs.FiveValues.{five_at}
use Rattle.five_valued.proofs.simulation.set_sources.Given as goal

-- the sources before this one have their values
abbrev pub invariant-loop-source : goal.invariant-loop-source
invariant-loop-source l = (k : ℕ) → k < l.source → five_at l.out k ≡ five_at l.partial k
