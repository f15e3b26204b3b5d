use Rattle.std.proofs.Common.{◌≡◌, ◌+◌, ◌-◌, ◌≤◌, length, vec_len}
use Rattle.pd_io.specs.Counts.{greatest_count}
use Rattle.pd_io.specs.declared.whole.TheConstants.{PIECE}
use Rattle.pd_io.proofs.Reading.{Reading}
use Rattle.pd_io.proofs.whole.read_whole.Given as goal

-- the bytes so far are a front of the file's, at most one over the limit, and no call failed
abbrev pub invariant-loop-buffer : goal.invariant-loop-buffer
invariant-loop-buffer g l =
    let files = g.F.Files in
    record {
      reading : Reading (files.folder l.fn.files) (files.folder l.files) (files.reader l.files) l.name l.bytes.items;
      within : vec_len l.bytes ≤ l.limit + 1;
      buffer : length l.buffer ≡ PIECE;
      writer : files.writer l.files ≡ files.writer l.fn.files;
      unchanged : files.read_faults l.files ≡ files.read_faults l.fn.files;
      counted : files.read_faults l.files ≤ greatest_count;
      write_faults : files.write_faults l.files ≡ files.write_faults l.fn.files;
    }

-- fewer bytes are wanted each time
abbrev pub decreases-loop-buffer : goal.decreases-loop-buffer
decreases-loop-buffer g l = l.limit + 1 - vec_len l.bytes
