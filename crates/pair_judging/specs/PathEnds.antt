-- The last lines of paths (this project's own).
use Rattle.std.specs.Prelude.{List, map}
use Rattle.pd_base.specs.declared.ids.LineId.{LineId}
use Rattle.pd_base.specs.Route.{Route}
use Rattle.netlist.specs.Circuit.{Circuit}
use Rattle.netlist.specs.Paths.{end_of}

-- the last line of each of these paths
abbrev pub ends_of : Circuit → List Route → List LineId
ends_of c routes = map (λ route. record { 0 = end_of c route }) routes
