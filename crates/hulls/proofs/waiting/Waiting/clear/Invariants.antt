use Rattle.std.proofs.Common.{◌≡◌, length}
use Rattle.hulls.proofs.waiting.Waiting.clear.Given as goal

abbrev pub invariant-loop-self : goal.invariant-loop-self
invariant-loop-self l = l.self.inside ≡ l.initial.self.inside

abbrev pub decreases-loop-self : goal.decreases-loop-self
decreases-loop-self l = length l.self.waiting
