use Rattle.std.proofs.Common.{◌≡◌, take}
use Rattle.net_builder.specs.Filling.{filled_lists}
use Rattle.net_builder.proofs.Rooms.{begin_of}
use Rattle.net_builder.proofs.filling.packed.Given as goal

-- the lists before this one are put into the new ones
abbrev pub invariant-loop-list : goal.invariant-loop-list
invariant-loop-list l = record {
  begins : l.begin ≡ begin_of 0 l.limits l.list;
  packed : l.lists ≡ take l.list (filled_lists l.items 0 l.limits l.ends);
}
