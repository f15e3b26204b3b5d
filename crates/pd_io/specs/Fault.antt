-- What the error of one call is called where a whole file was to be read or written (this project's own).
use Rattle.pd_io.specs.declared.fault.FileFault.{FileFault}
use Rattle.pd_io.specs.declared.fault.FileFault.TheVariants as call
use Rattle.pd_io.specs.declared.fault.ReadFault.{ReadFault}
use Rattle.pd_io.specs.declared.fault.ReadFault.TheVariants as reading
use Rattle.pd_io.specs.declared.fault.WriteFault.{WriteFault}
use Rattle.pd_io.specs.declared.fault.WriteFault.TheVariants as writing

-- a failed call is a failed reading, and want of memory stays want of memory
abbrev pub read_fault_of : FileFault → ReadFault
read_fault_of call.Failed = reading.Failed
read_fault_of (call.NoMemory refused) = reading.NoMemory refused

-- a failed call is a failed writing, and want of memory stays want of memory
abbrev pub write_fault_of : FileFault → WriteFault
write_fault_of call.Failed = writing.Failed
write_fault_of (call.NoMemory refused) = writing.NoMemory refused
