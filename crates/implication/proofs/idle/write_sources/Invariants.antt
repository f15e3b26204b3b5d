-- The sources so far have the set, and no other line has changed.
use Rattle.std.proofs.Common.{◌≡◌, ◌<◌, ◌≤◌, ℕ, length}
use Rattle.state_sets.specs.Labellings.{label_at}
use Rattle.implication.proofs.idle.write_sources.Given as goal

abbrev pub invariant-loop-source : goal.invariant-loop-source
invariant-loop-source g l = record {
  board : l.board ≡ record l.initial.board { labels = l.board.labels };
  one_each : length l.board.labels ≡ length l.initial.board.labels;
  sources : (k : ℕ) → k < l.source → label_at l.board.labels k ≡ l.fn.set;
  others : (k : ℕ) → l.source ≤ k → label_at l.board.labels k ≡ label_at l.initial.board.labels k;
}
