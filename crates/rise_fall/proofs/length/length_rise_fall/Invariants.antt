use Rattle.std.proofs.Common.{◌≤◌, ◌*◌, drop}
use Rattle.delay_annotation.specs.RiseFall.{rise_fall_of}
use Rattle.delay_annotation.specs.declared.delays.TheConstants.{MOST_DELAY}
use Rattle.rise_fall.proofs.Measuring.{IsMeasured, measured}
use Rattle.rise_fall.proofs.length.length_rise_fall.Given as goal

-- the delays of the steps so far, each of which is at most the greatest one, and where the others lead on
abbrev pub invariant-loop-step : goal.invariant-loop-step
invariant-loop-step l =
    let delays = rise_fall_of l.net l.delays in record {
      fits : l.total ≤ l.step-index * MOST_DELAY;
      measured : IsMeasured delays l.net l.values (measured delays l.net l.values l.path.source.0 l.path.steps) l.total l.line.0
          (drop l.step-index l.step-items);
    }
