-- The states of the lines of a cone under one pair: those of the sources are the pair's, and the others are computed.
use Rattle.std.proofs.Common.{ℕ, ◌<◌, ◌≤◌, List, [], get_or, arith}
use Rattle.std.specs.List.{All}
use Rattle.std.proofs.lemmas.List.Elements.{Contains-get_or}
use Rattle.pd_base.specs.Pair.{Vectors}
use Rattle.pd_base.specs.Links.{LinkList}
use Rattle.pd_base.specs.Route.{Route}
use Rattle.pd_base.specs.declared.ids.LineId.{LineId}
use Rattle.pd_base.specs.declared.ids.GateId.{GateId}
use Rattle.netlist.specs.Circuit.{Circuit, HasGates, source_count}
use Rattle.netlist.specs.Lawful.{IsCircuit}
use Rattle.netlist.specs.LinkedPairs.IsSupported.{in_fan_in}
use Rattle.netlist.specs.Paths.{IsPrefix, end_of}
use Rattle.path_laws.proofs.StepCounts.{line_after_in_circuit}
use Rattle.state_sets.specs.declared.state.State.{State}
use Rattle.state_sets.specs.StateAlgebra.{StateAlgebra}
use Rattle.state_laws.proofs.FanIns.{fan_in_in_circuit}
use Rattle.pair_judging.specs.ConeStates.{HasConeStates}
use Rattle.pair_judging.specs.Judged.{AreComputed}
use Rattle.cones.specs.KeptCones.{AreConeSources, AreConeGates}
use Rattle.pair_judging.specs.SourceBits.{AreTakenOf}

module _ (c : Circuit) (links : LinkList) (end : ℕ) where
  -- the sources of a cone are below any bound that sources have
  pub sources_below : (sources : List LineId) → AreConeSources c links end sources → (bound : ℕ) → source_count c ≤ bound
      → All (λ source. source.0 < bound) sources
  sources_below sources are bound few k d inside =
      let own = (are.exactly (get_or sources k d).0).0 (Contains-get_or sources k d inside) in omega (arith, own.0, few)

  -- its gates are gates of the circuit
  pub gates_inside : (gates : List GateId) → AreConeGates c links end gates → HasGates c gates
  gates_inside gates are k d inside = ((are.exactly (get_or gates k d).0).0 (Contains-get_or gates k d inside)).0

-- each line of the cone is in its state under the pair
pub under_pair : (a : StateAlgebra) (c : Circuit) → IsCircuit c → (path : Route) → IsPrefix c path → (pair : Vectors) → (sources : List LineId)
    → AreConeSources c [] (end_of c path) sources → (gates : List GateId) → AreConeGates c [] (end_of c path) gates → (taken computed : List State)
    → AreTakenOf a pair sources taken → AreComputed a c gates taken computed → HasConeStates a c (end_of c path) computed pair
under_pair a c circuit path is pair sources are_sources gates are_gates taken computed has computes line further =
    let end = end_of c path in
    let within = line_after_in_circuit c circuit path.source.0 path.steps (let s = is.source in omega arith) is.connects in
    computes [] end are_gates pair (λ source below inside. has c source below ((are_sources.exactly source).1 (below, inside))) line
    (fan_in_in_circuit c end circuit.reads_lines within line further) (in_fan_in line further)
