use Rattle.std.proofs.Common.{◌≡◌, ℕ, ◌<◌}
use Rattle.state_sets.specs.States.{no_states}
use Rattle.hulls.specs.Sets.{set_at}
use Rattle.hulls.proofs.collecting.clear.Given as goal

abbrev pub invariant-loop-set : goal.invariant-loop-set
invariant-loop-set l = (k : ℕ) → k < l.set-index → set_at l.sets k ≡ no_states
