-- What is seen of the outside at one moment, named once for all clauses that speak of it (this project's own).
use Rattle.std.specs.Prelude.{ℕ, List, Option}
use Rattle.pd_io.specs.Folder.{Folder, Reader}
use Rattle.pd_io.specs.declared.files.Files.{Ghosts as FileGhosts}
use Rattle.pd_io.specs.declared.sink.Sink.{Ghosts as SinkGhosts}

-- of a file object: what it tells of its content, the file that is open for reading and how many of its bytes were taken,
-- the name of the file that is open for writing, and how often reading and writing failed
pub record FilesSeen : Type 0 where
  pub folder : Option Folder
  pub reader : Option Reader
  pub writer : Option (List ℕ)
  pub read_faults : ℕ
  pub write_faults : ℕ

-- of a sink: what it tells of the bytes that it took, and how often a write failed
pub record SinkSeen : Type 0 where
  pub taken : Option (List ℕ)
  pub faults : ℕ

-- of all that a call is given: its files, and the streams out and err
pub record Outside : Type 0 where
  pub files : FilesSeen
  pub out : SinkSeen
  pub err : SinkSeen

-- of what the work of a command may touch: its files, and the stream out
pub record Seen : Type 0 where
  pub files : FilesSeen
  pub out : SinkSeen

-- the part of the outside that the work of a command may touch
abbrev pub seen_of : Outside → Seen
seen_of all = record { files = all.files; out = all.out }

-- what is seen of a file object
abbrev pub files_seen : {F : Type 0} → FileGhosts F → F → FilesSeen
files_seen ghosts files = record {
  folder = ghosts.folder files;
  reader = ghosts.reader files;
  writer = ghosts.writer files;
  read_faults = ghosts.read_faults files;
  write_faults = ghosts.write_faults files;
}

-- what is seen of a sink
abbrev pub sink_seen : {S : Type 0} → SinkGhosts S → S → SinkSeen
sink_seen ghosts sink = record { taken = ghosts.taken sink; faults = ghosts.faults sink }

-- what is seen of files and out together
abbrev pub seen : {F O : Type 0} → FileGhosts F → SinkGhosts O → F → O → Seen
seen file_ghosts out_ghosts files out =
    record { files = files_seen file_ghosts files; out = sink_seen out_ghosts out }

-- what is seen of files, out and err together
abbrev pub outside : {F O E : Type 0} → FileGhosts F → SinkGhosts O → SinkGhosts E → F → O → E → Outside
outside file_ghosts out_ghosts err_ghosts files out err = record {
  files = files_seen file_ghosts files;
  out = sink_seen out_ghosts out;
  err = sink_seen err_ghosts err;
}
