-- The lines that are listed are lines of the circuit.
use Rattle.netlist.specs.Circuit.{HasLines}
use Rattle.search_hints.proofs.frames.list_linked.Given as goal

abbrev pub invariant-loop-source : goal.invariant-loop-source
invariant-loop-source l = HasLines l.net l.list.items
