use Rattle.std.proofs.Common.{◌≡◌, ◌≤◌, take, sum_by}
use Rattle.net_builder.specs.Progress.{one_of_gate}
use Rattle.net_builder.proofs.progress.count_gates.Given as goal

-- the pins before this one are counted
abbrev pub invariant-loop-line : goal.invariant-loop-line
invariant-loop-line l = record {
  counted : l.count ≡ sum_by (λ line. one_of_gate l.sources line.0) (take l.line-index l.reads);
  few : l.count ≤ l.line-index;
}
