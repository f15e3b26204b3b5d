-- The paths whose proofs a judge can judge (this project's own).
use Rattle.std.specs.Prelude.{Option}
use Rattle.pd_base.specs.Links.{LinkList}
use Rattle.pd_base.specs.Route.{Route}
use Rattle.netlist.specs.Circuit.{Circuit}
use Rattle.netlist.specs.Paths.{IsPath, end_of}
use Rattle.implication.specs.Standing.{ToldEnds, IsToldBy}

-- a path that ends in the support of one of these ends
pub record IsPathTold (c : Circuit) (links : LinkList) (ends : Option ToldEnds) (path : Route) : Type 0 where
  pub is_path : IsPath c path
  pub told : IsToldBy c links ends (end_of c path)
