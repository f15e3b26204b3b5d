use Rattle.std.proofs.Common.{◌≡◌, length}
use Rattle.pd_io.specs.OpenFile.{KeepsOpen, TakesUpTo}
use Rattle.pd_io.specs.Seen.{files_seen}
use Rattle.pd_io.specs.Telling.{Tells}
use Rattle.pd_io.proofs.appending.append_all.Given as goal

-- the open file took a front of the bytes, and no call failed
abbrev pub invariant-loop-rest : goal.invariant-loop-rest
invariant-loop-rest g l =
    let files = g.F.Files in
    record {
      taken : Tells (files.folder l.fn.files) (files.folder l.files) (TakesUpTo (files.writer l.fn.files) l.bytes l.rest);
      keeps : KeepsOpen (files_seen files l.fn.files) (files_seen files l.files);
      unchanged : files.write_faults l.files ≡ files.write_faults l.fn.files;
    }

-- fewer bytes are left each time
abbrev pub decreases-loop-rest : goal.decreases-loop-rest
decreases-loop-rest g l = length l.rest
