use Rattle.std.proofs.Common.{◌≡◌, ℕ, ◌<◌, true}
use Rattle.state_sets.specs.States.{Has}
use Rattle.hulls.proofs.Sets.{state_of}
use Rattle.hulls.proofs.link.links_to_some.Given as goal

-- the states so far don't link
abbrev pub invariant-loop-number : goal.invariant-loop-number
invariant-loop-number g l = (k : ℕ) → k < l.number → ¬ (Has g.A.Algebra.algebra.count l.lines (state_of k) × (g.A.Algebra.algebra.link l.source (state_of k) ≡ true))
