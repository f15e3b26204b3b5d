-- What the steady objects hold (this project's own).
use Rattle.std.specs.Prelude.{ℕ, List, Option}
use Rattle.pd_io.specs.declared.steady.SteadyFiles.{SteadyFiles}
use Rattle.pd_io.specs.declared.steady.SteadySink.{SteadySink}
use Rattle.pd_io.specs.Folder.{Folder, Reader}
use Rattle.pd_io.specs.Shelf.{folder_of, reader_of, writer_of}

-- what the files hold, and the names that they were asked
abbrev pub steady_folder : SteadyFiles → Folder
steady_folder files = folder_of files.shelf

-- the file that is open for reading
abbrev pub steady_reader : SteadyFiles → Option Reader
steady_reader files = reader_of files.shelf

-- the name of the file that is open for writing
abbrev pub steady_writer : SteadyFiles → Option (List ℕ)
steady_writer files = writer_of files.shelf

-- the bytes that the sink took
abbrev pub steady_bytes : SteadySink → List ℕ
steady_bytes sink = sink.bytes.items
