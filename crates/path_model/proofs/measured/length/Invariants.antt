use Rattle.std.proofs.Common.{◌≡◌, ◌≤◌, ◌*◌, sum_by, take}
use Rattle.delay_annotation.specs.Annotation.{delays_of}
use Rattle.delay_annotation.specs.declared.delays.TheConstants.{MOST_DELAY}
use Rattle.path_model.proofs.measured.length.Given as goal

-- the delays of the steps so far, each of which is at most the greatest one
abbrev pub invariant-loop-step : goal.invariant-loop-step
invariant-loop-step l = record {
  sum : l.total ≡ sum_by (delays_of l.net l.delays) (take l.step-index l.step-items);
  fits : l.total ≤ l.step-index * MOST_DELAY;
}
