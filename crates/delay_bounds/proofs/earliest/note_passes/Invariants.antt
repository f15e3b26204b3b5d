use Rattle.std.proofs.Common.{◌≡◌, length}
use Rattle.delay_bounds.specs.Inside.Earliest.{AreEarliest}
use Rattle.delay_bounds.proofs.earliest.note_passes.Given as goal

-- the rows so far are noted
abbrev pub invariant-loop-row : goal.invariant-loop-row
invariant-loop-row l = record {
  noted : AreEarliest l.log l.row-index l.times;
  places : length l.times ≡ length l.initial.times;
}
