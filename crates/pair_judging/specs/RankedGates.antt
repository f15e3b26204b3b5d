-- The gates of a circuit in rank order (this project's own).
use Rattle.std.specs.Prelude.{◌≡◌, ℕ, List, length}
use Rattle.pd_base.specs.declared.ids.GateId.{GateId}
use Rattle.netlist.specs.Circuit.{Circuit, gate_count}
use Rattle.netlist.specs.Levels.{IsRankOrder, ReadsEarlier}
use Rattle.cones.specs.Ranks.{ranked_gate, AreRanks}

-- gates in an order, and by gate its place there
pub record RankedGates : Type 0 where
  pub order : List GateId
  pub places : List ℕ

-- the number of the gate at a place
abbrev pub gate_ranked : RankedGates → ℕ → ℕ
gate_ranked gates place = (ranked_gate gates.order place).0

-- they are all gates of the circuit, each behind those whose lines it reads, and in their places
pub record AreRankedGates (c : Circuit) (gates : RankedGates) : Type 0 where
  pub ordered : IsRankOrder c gates.order
  pub earlier : ReadsEarlier c gates.order
  pub one_each : length gates.places ≡ gate_count c
  pub ranks : AreRanks gates.order gates.places
