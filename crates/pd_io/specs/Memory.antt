-- What the objects in memory hold, and which of their calls fail (this project's own).
use Rattle.std.specs.Prelude.{ℕ, ◌||◌, Bool, List, Option, is_none}
use Rattle.pd_io.specs.declared.memory.MemoryFiles.{MemoryFiles}
use Rattle.pd_io.specs.declared.memory.MemorySink.{MemorySink}
use Rattle.pd_io.specs.declared.memory.FileCall.{FileCall}
use Rattle.pd_io.specs.declared.memory.FileCall.TheVariants.{BeginRead, Read, BeginWrite, Write, Finish}
use Rattle.pd_io.specs.Folder.{Folder, Reader}
use Rattle.pd_io.specs.Shelf.{folder_of, reader_of, writer_of}
use Rattle.pd_io.specs.Plan.{CallPlan, plan_of, empty_plan, fails_next, plan_with}

-- what the files hold, and the names that they were asked
abbrev pub memory_folder : MemoryFiles → Folder
memory_folder files = folder_of files.shelf

-- the file that is open for reading
abbrev pub memory_reader : MemoryFiles → Option Reader
memory_reader files = reader_of files.shelf

-- the name of the file that is open for writing
abbrev pub memory_writer : MemoryFiles → Option (List ℕ)
memory_writer files = writer_of files.shelf

-- how often reading failed
abbrev pub memory_read_faults : MemoryFiles → ℕ
memory_read_faults files = files.read_faults.count

-- how often writing failed
abbrev pub memory_write_faults : MemoryFiles → ℕ
memory_write_faults files = files.write_faults.count

-- the plan of each method
pub record Plans : Type 0 where
  pub begin_read : CallPlan
  pub read : CallPlan
  pub begin_write : CallPlan
  pub write : CallPlan
  pub finish : CallPlan

-- no call was made, and none is to fail
abbrev pub no_plans : Plans
no_plans = record {
  begin_read = empty_plan;
  read = empty_plan;
  begin_write = empty_plan;
  write = empty_plan;
  finish = empty_plan;
}

-- which calls of the files are to fail
abbrev pub memory_plans : MemoryFiles → Plans
memory_plans files = record {
  begin_read = plan_of files.begin_reads;
  read = plan_of files.reads;
  begin_write = plan_of files.begin_writes;
  write = plan_of files.writes;
  finish = plan_of files.finishes;
}

-- the plans by which one more call of a method is to fail, that of this number
abbrev pub plans_with : Plans → FileCall → ℕ → Plans
plans_with plans BeginRead nth = record plans { begin_read = plan_with plans.begin_read nth }
plans_with plans Read nth = record plans { read = plan_with plans.read nth }
plans_with plans BeginWrite nth = record plans { begin_write = plan_with plans.begin_write nth }
plans_with plans Write nth = record plans { write = plan_with plans.write nth }
plans_with plans Finish nth = record plans { finish = plan_with plans.finish nth }

-- the next `begin_read` of this name fails: it is planned to, or the name is absent
abbrev pub refuses : MemoryFiles → List ℕ → Bool
refuses files name = fails_next (memory_plans files).begin_read || is_none ((memory_folder files).held name)

-- the bytes that the sink took
abbrev pub memory_bytes : MemorySink → List ℕ
memory_bytes sink = sink.bytes.items

-- how often a write to the sink failed
abbrev pub memory_faults : MemorySink → ℕ
memory_faults sink = sink.faults.count

-- which writes to the sink are to fail
abbrev pub sink_plan : MemorySink → CallPlan
sink_plan sink = plan_of sink.writes
