use Rattle.std.proofs.Common.{◌≡◌, ◌<◌, ℕ, [], length, sum_by, take, slice_index, slice_index_or}
use Rattle.net_builder.specs.Readers.{readers}
use Rattle.net_builder.specs.Wiring.{times_read}
use Rattle.net_builder.proofs.fanouts.fanouts_of.Given as goal

-- the pins of the gates before this one are added
abbrev pub invariant-loop-gate : goal.invariant-loop-gate
invariant-loop-gate l = record {
  long : length l.filling.lists ≡ l.lines;
  rooms : (line : ℕ) → line < l.lines → slice_index l.filling.rooms line ≡ sum_by (times_read line) l.pins;
  added : (line : ℕ) → line < l.lines → slice_index_or l.filling.lists line [] ≡ readers 0 (take l.gate l.pins) line;
}
