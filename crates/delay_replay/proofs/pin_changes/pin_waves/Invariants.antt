use Rattle.std.proofs.Common.{ℤ, take}
use Rattle.std.specs.BinaryHeap.{heap_items, IsHeap}
use Rattle.std.specs.List.{All}
use Rattle.delay_replay.specs.PinChanges.{AreAmong, AreCounted, IsPinChange, copy_values, sooner}
use Rattle.delay_replay.proofs.pin_changes.pin_waves.Given as goal

-- the pins before this one have their next changes in the store
abbrev pub invariant-loop-pin : goal.invariant-loop-pin
invariant-loop-pin g l =
    let copies = g.P.PinCopies.copies l.copies in record {
      order : IsHeap sooner (heap_items l.nexts);
      among : AreAmong l.pin l.ones (heap_items l.nexts);
      each : All (IsPinChange copies) (heap_items l.nexts);
      counted : (time : ℤ) → AreCounted copies (copy_values (take l.pin copies) time) l.ones (heap_items l.nexts) time;
    }
