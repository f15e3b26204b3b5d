-- The flags of the first sources are set.
use Rattle.netlist.specs.Circuit.{source_count}
use Rattle.implication.proofs.Inside.{AreFirstFlagged}
use Rattle.implication.proofs.engine_cone.flag_told.Given as goal

abbrev pub invariant-loop-source : goal.invariant-loop-source
invariant-loop-source l = AreFirstFlagged l.source (source_count l.net) l.links l.initial.told l.told
