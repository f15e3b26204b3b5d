use Rattle.std.proofs.Common.{◌≡◌, ◌<◌, ℕ}
use Rattle.netlist.specs.Values.{bit_of}
use Rattle.logic_values.specs.Known.{bit_at}
use Rattle.pair_judging.specs.LineValues.{AreLineValues}
use Rattle.pair_judging.proofs.line_values.set_sources.Given as goal

-- the sources before this one have their bits
abbrev pub invariant-loop-source : goal.invariant-loop-source
invariant-loop-source l = record {
  kept : AreLineValues l.net (record { values = l.values; gates = l.gates; stale = l.stale });
  bits : (k : ℕ) → k < l.source → bit_at l.values k ≡ bit_of l.vector k;
}
