use Rattle.std.proofs.Common.{◌≢◌, ℕ, ◌<◌}
use Rattle.state_sets.specs.States.{no_states}
use Rattle.state_sets.specs.Labellings.{label_at}
use Rattle.hulls.proofs.settling.empty_line.Given as goal

abbrev pub invariant-loop-line : goal.invariant-loop-line
invariant-loop-line l = (line : ℕ) → line < l.line → label_at l.labels line ≢ no_states
