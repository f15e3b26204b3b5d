use Rattle.std.proofs.Common.{◌-◌, ◌≤◌, length, take}
use Rattle.netlist.specs.Circuit.{kind_at}
use Rattle.netlist.specs.Values.{bit_of, gate_value}
use Rattle.logic_values.specs.Known.{bit_at}
use Rattle.logic_values.proofs.RankPass.{HasValues}
use Rattle.pair_judging.specs.LineValues.{AreLineValues}
use Rattle.pair_judging.proofs.line_values.update.Given as goal

-- the sources and the gates before this place have their values
abbrev pub invariant-loop-place : goal.invariant-loop-place
invariant-loop-place l = record {
  kept : AreLineValues l.net (record { values = l.values; gates = l.gates; stale = l.stale });
  within : l.place ≤ length l.stale;
  has : HasValues l.net (bit_of l.vector) (λ gate values. gate_value (kind_at l.net gate) values) (take l.place l.gates.order) (bit_at l.values);
}

abbrev pub decreases-loop-place : goal.decreases-loop-place
decreases-loop-place l = length l.stale - l.place
