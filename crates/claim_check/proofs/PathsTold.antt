-- The paths in the support of whose ends a judge can judge, with their prefixes.
use Rattle.std.proofs.Common.{◌≡◌, ℕ, false, zero, suc, List, [], ◌∷◌, take, Option, Some}
use Rattle.std.specs.List.{All}
use Rattle.pd_base.specs.declared.ids.PinRef.{PinRef}
use Rattle.pd_base.specs.Links.{LinkList}
use Rattle.pd_base.specs.Route.{Route}
use Rattle.netlist.specs.Circuit.{Circuit, gate_line}
use Rattle.netlist.specs.Pins.{IsInFanIn}
use Rattle.netlist.specs.Pins.IsInFanIn.{end_itself}
use Rattle.netlist.specs.Paths.{Connects, IsPath, end_of, line_after, prefix_of}
use Rattle.state_laws.proofs.FanIns.{leads_in_fan_in}
use Rattle.implication.specs.Standing.{ToldEnds, told_ends, IsToldBy}
use Rattle.implication.proofs.Told.{ends_told, told_in_fan_in}
use Rattle.pair_judging.specs.PathEnds.{ends_of}
use Rattle.claim_check.specs.JudgedPaths.{IsPathTold}

-- the listed paths are told where their ends are all that is told
pub paths_told : (c : Circuit) (links : LinkList) (routes : List Route) → All (IsPath c) routes → (ends : Option ToldEnds) → ends ≡ Some (told_ends (ends_of c routes) false)
    → All (IsPathTold c links ends) routes
paths_told c links routes are ends same place d within =
    record { is_path = are place d within; told = ends_told c links routes false ends same place d within }

-- the line to which the first steps lead is in the fan-in of that to which all lead
first_in_fan_in : (c : Circuit) (line : ℕ) (steps : List PinRef) (count : ℕ) → Connects c line steps
    → IsInFanIn c (line_after c line steps) (line_after c line (take count steps))
first_in_fan_in c line steps zero connects = leads_in_fan_in c line steps connects
first_in_fan_in c line [] (suc count) connects = end_itself
first_in_fan_in c line (step ∷ steps) (suc count) connects = first_in_fan_in c (gate_line c step.gate.0) steps count connects.1

-- so the end of each prefix of a path is told where that of the path is
pub prefix_told : (c : Circuit) (links : LinkList) (ends : Option ToldEnds) (path : Route) (count : ℕ) → IsPathTold c links ends path
    → IsToldBy c links ends (end_of c (prefix_of count path))
prefix_told c links ends path count is =
    told_in_fan_in c links ends (end_of c path) (end_of c (prefix_of count path)) is.told
    (first_in_fan_in c path.source.0 path.steps count is.is_path.prefix.connects)
