use Rattle.std.proofs.Common.{◌≡◌, ◌<◌, ℕ}
use Rattle.netlist.specs.Values.{bit_of}
use Rattle.logic_values.specs.Known.{bit_at}
use Rattle.logic_values.proofs.boolean.set_sources.Given as goal

-- the sources before this one have their bits
abbrev pub invariant-loop-source : goal.invariant-loop-source
invariant-loop-source l = (k : ℕ) → k < l.source → bit_at l.out k ≡ bit_of l.vector k
