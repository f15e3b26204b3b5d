use Rattle.std.proofs.Common.{◌≢◌, ℕ, ◌<◌, get_or}
use Rattle.pd_base.specs.declared.ids.LineId.{LineId}
use Rattle.state_sets.specs.States.{no_states}
use Rattle.state_sets.specs.Labellings.{label_at}
use Rattle.hulls.proofs.cutting.first_empty.Given as goal

-- the lines so far have states
abbrev pub invariant-loop-line : goal.invariant-loop-line
invariant-loop-line l = (k : ℕ) (d : LineId) → k < l.line-index → label_at l.labels (get_or l.lines k d).0 ≢ no_states
