-- Want of memory, as contracts see it (this project's own).
use Rattle.pd_base.specs.declared.memory.OutOfMemory.{OutOfMemory}

-- the evidence that memory ran out: all of it is alike, since it tells no more than that it was made
abbrev pub out_of_memory : OutOfMemory
out_of_memory = record { _refused = tt }
