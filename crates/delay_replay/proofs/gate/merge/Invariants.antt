use Rattle.std.specs.BinaryHeap.{heap_items, IsHeap}
use Rattle.delay_replay.specs.PinChanges.{copy_values, sooner}
use Rattle.delay_replay.proofs.NextChanges.{still_to_come}
use Rattle.delay_replay.proofs.Merging.{IsMerged}
use Rattle.delay_replay.proofs.gate.merge.Given as goal

-- the changes before the soonest one in the store are passed
abbrev pub invariant-loop-soonest : goal.invariant-loop-soonest
invariant-loop-soonest g l =
    let copies = g.P.PinCopies.copies l.copies in record {
      order : IsHeap sooner (heap_items l.nexts);
      merged : IsMerged copies (copy_values copies) l.fn.kind l.pins l.ones (heap_items l.nexts) l.wave;
    }

abbrev pub decreases-loop-soonest : goal.decreases-loop-soonest
decreases-loop-soonest g l = still_to_come (g.P.PinCopies.copies l.copies) (heap_items l.nexts)
