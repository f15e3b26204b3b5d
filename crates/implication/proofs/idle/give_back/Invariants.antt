-- Each line that is not among those left has its label.
use Rattle.std.proofs.Common.{◌≡◌, drop, length}
use Rattle.std.specs.List.{Contains}
use Rattle.pd_base.specs.declared.ids.LineId.{LineId}
use Rattle.state_sets.specs.Labellings.{label_at}
use Rattle.implication.proofs.idle.give_back.Given as goal

abbrev pub invariant-loop-line : goal.invariant-loop-line
invariant-loop-line g l = record {
  board : l.board ≡ record l.initial.board { labels = l.board.labels };
  one_each : length l.board.labels ≡ length l.labels;
  same : (line : LineId) → ¬ Contains (drop l.line-index l.line-items) line → label_at l.board.labels line.0 ≡ label_at l.labels line.0;
}
