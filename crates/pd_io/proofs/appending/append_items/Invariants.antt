use Rattle.std.proofs.Common.{◌≡◌, ◌++◌}
use Rattle.pd_io.specs.OpenFile.{KeepsOpen, TakesUpTo}
use Rattle.pd_io.specs.Seen.{files_seen}
use Rattle.pd_io.specs.Telling.{Tells}
use Rattle.pd_io.proofs.appending.append_items.Given as goal

-- the open file took a front of what was to come, of which the buffer has the next bytes, and no call failed
abbrev pub invariant-loop-index : goal.invariant-loop-index
invariant-loop-index g l =
    let files = g.F.Files in
    record {
      taken : Tells (files.folder l.fn.files) (files.folder l.files)
          (TakesUpTo (files.writer l.fn.files) (l.fn.buffer.items ++ g.P.Pieces.left l.pieces 0) (l.buffer.items ++ g.P.Pieces.left l.pieces l.index));
      keeps : KeepsOpen (files_seen files l.fn.files) (files_seen files l.files);
      unchanged : files.write_faults l.files ≡ files.write_faults l.fn.files;
    }
