-- The lines so far have their labels.
use Rattle.std.proofs.Common.{◌≡◌, ◌<◌, ℕ, length}
use Rattle.state_sets.specs.Labellings.{label_at}
use Rattle.implication.proofs.idle.put_labels.Given as goal

abbrev pub invariant-loop-line : goal.invariant-loop-line
invariant-loop-line g l = record {
  board : l.board ≡ record l.initial.board { labels = l.board.labels };
  one_each : length l.board.labels ≡ length l.labels;
  done : (k : ℕ) → k < l.line → label_at l.board.labels k ≡ label_at l.labels k;
}
