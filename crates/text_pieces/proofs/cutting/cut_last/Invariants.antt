use Rattle.std.proofs.Common.{◌≤◌, drop, length}
use Rattle.text_pieces.specs.Cuts.{Lacks}
use Rattle.text_pieces.proofs.cutting.cut_last.Given as goal

-- the byte is not from here on
abbrev pub invariant-loop-end : goal.invariant-loop-end
invariant-loop-end l = record {
  within : l.end ≤ length l.text;
  lacks : Lacks l.byte (drop l.end l.text);
}

abbrev pub decreases-loop-end : goal.decreases-loop-end
decreases-loop-end l = l.end
