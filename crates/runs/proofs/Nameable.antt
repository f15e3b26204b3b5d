-- What a report names of a path of the circuit is in the circuit.
use Rattle.std.proofs.Common.{ℕ, List, [], ◌∷◌}
use Rattle.std.specs.List.{AllByRecursion}
use Rattle.std.proofs.lemmas.List.Elements.{All-from_recursion}
use Rattle.std.proofs.lemmas.Option.{slice_get_within}
use Rattle.pd_base.specs.declared.ids.PinRef.{PinRef}
use Rattle.pd_base.specs.Route.{Route}
use Rattle.netlist.specs.Circuit.{Circuit, gate_line, pins_at}
use Rattle.netlist.specs.Paths.{Connects, IsPath}
use Rattle.netlist.specs.Pins.{IsPin}
use Rattle.runs.specs.Lawful.{IsNameable}

module _ (c : Circuit) where
  -- steps that connect go through pins of the circuit
  connected_are_pins : (line : ℕ) (steps : List PinRef) → Connects c line steps → AllByRecursion (IsPin c) steps
  connected_are_pins line [] connects = tt
  connected_are_pins line (step ∷ steps) connects = (
    record { in_circuit = connects.0.in_circuit; in_gate = slice_get_within (pins_at c step.gate.0) step.pin (record { 0 = line }) connects.0.reads },
    connected_are_pins (gate_line c step.gate.0) steps connects.1,
  )

  -- so the source and the steps of a path can be named
  pub path_is_nameable : (path : Route) → IsPath c path → IsNameable c path
  path_is_nameable path is = record {
    source = is.prefix.source;
    steps = All-from_recursion (IsPin c) path.steps (connected_are_pins path.source.0 path.steps is.prefix.connects);
  }
