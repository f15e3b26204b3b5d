-- Lines in the support of several ends (this project's own).
use Rattle.std.specs.Prelude.{ℕ, List, Contains}
use Rattle.pd_base.specs.Links.{LinkList}
use Rattle.pd_base.specs.declared.ids.LineId.{LineId}
use Rattle.netlist.specs.Circuit.{Circuit}
use Rattle.netlist.specs.LinkedPairs.{IsSupported}

-- the line is in the support of one of these ends
abbrev pub IsBehind : Circuit → LinkList → List LineId → ℕ → Type 0
IsBehind c links ends line = (end : LineId) × Contains ends end × IsSupported c links end.0 line
