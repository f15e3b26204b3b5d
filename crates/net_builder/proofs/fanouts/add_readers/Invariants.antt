use Rattle.std.proofs.Common.{◌≡◌, ◌<◌, ◌++◌, ℕ, [], length, take, slice_index_or}
use Rattle.net_builder.specs.Readers.{own_readers}
use Rattle.net_builder.proofs.fanouts.add_readers.Given as goal

-- the pins before this one are added
abbrev pub invariant-loop-pin : goal.invariant-loop-pin
invariant-loop-pin l = record {
  count : length l.filling.lists ≡ length l.initial.filling.lists;
  rooms : l.filling.rooms ≡ l.initial.filling.rooms;
  added : (line : ℕ) → line < length l.initial.filling.lists → slice_index_or l.filling.lists line []
      ≡ slice_index_or l.initial.filling.lists line [] ++ own_readers l.gate.0 0 (take l.pin l.reads) line;
}
