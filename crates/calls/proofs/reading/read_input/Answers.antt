-- The file is over the limit; and want of memory, before or after the name was asked.
use Rattle.std.proofs.Common.{ap, ◌∙◌}
use Rattle.std.specs.Prelude.{Err}
use Rattle.pd_io.specs.Seen.{files_seen}
use Rattle.calls.proofs.Inputs.{too_long, without_memory}
use Rattle.calls.proofs.reading.read_input.Goals as goal

pub returns-in-Err-TooLong-clause-read : goal.returns-in-Err-TooLong-clause-read
returns-in-Err-TooLong-clause-read g c =
    let is = c.in-Err-TooLong.is ∙ ap Err c.in-Err-TooLong.field-0-is in
    too_long c.args.limit c.args.name.now c.read_whole.result (files_seen g.F.Files c.args.files.now)
    (files_seen g.F.Files c.read_whole.new.files) is c.read_whole.ensures.too_long c.read_whole.ensures.told
    c.read_whole.ensures.cause c.read_whole.ensures.too_long_place c.read_whole.ensures.too_long_writer c.read_whole.ensures.write_faults

pub returns-in-Err-NoMemory-clause-failed : goal.returns-in-Err-NoMemory-clause-failed
returns-in-Err-NoMemory-clause-failed g c =
    let is = c.in-Err-NoMemory.is ∙ ap Err c.in-Err-NoMemory.field-0-is in
    without_memory c.args.role c.args.name.now c.read_whole.result (files_seen g.F.Files c.args.files.now)
    (files_seen g.F.Files c.read_whole.new.files) is c.read_whole.ensures.told c.read_whole.ensures.cause
    c.read_whole.ensures.write_faults
