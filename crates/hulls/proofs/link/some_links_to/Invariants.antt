use Rattle.std.proofs.Common.{◌≡◌, ℕ, ◌<◌, true}
use Rattle.state_sets.specs.States.{Has}
use Rattle.hulls.proofs.Sets.{state_of}
use Rattle.hulls.proofs.link.some_links_to.Given as goal

-- the states so far don't link
abbrev pub invariant-loop-number : goal.invariant-loop-number
invariant-loop-number g l = (k : ℕ) → k < l.number → ¬ (Has g.A.Algebra.algebra.count l.sources (state_of k) × (g.A.Algebra.algebra.link (state_of k) l.line ≡ true))
