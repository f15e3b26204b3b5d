use Rattle.std.proofs.Common.{◌≡◌, ℕ, ◌<◌, map}
use Rattle.state_sets.specs.States.{both_sets}
use Rattle.state_sets.specs.Labellings.{label_at}
use Rattle.hulls.specs.Sets.{set_at}
use Rattle.hulls.specs.Limits.{limit_at}
use Rattle.hulls.proofs.limits.cut_to.Given as goal

-- the sets of the pins so far are cut
abbrev pub invariant-loop-pin : goal.invariant-loop-pin
invariant-loop-pin l = (k : ℕ) → k < l.pin
    → set_at l.cut k ≡ both_sets (set_at (map (λ line. label_at l.labels line.0) l.pins) k) (limit_at l.limits k)
