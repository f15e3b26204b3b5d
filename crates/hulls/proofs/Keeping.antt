-- Where all lines of a gate keep their states, its narrowing changes nothing.
use Rattle.std.proofs.Common.{◌≡◌, ℕ, ◌<◌, List, length, Option, None, arith}
use Rattle.netlist.specs.Circuit.{Circuit, gate_line, pins_at}
use Rattle.netlist.specs.Lawful.{IsCircuit}
use Rattle.state_sets.specs.declared.state.StateSet.{StateSet}
use Rattle.state_sets.specs.declared.condition.Condition.{Condition}
use Rattle.state_sets.specs.StateAlgebra.{StateAlgebra}
use Rattle.state_sets.specs.Narrowing.{GivesAtGate, GivesAtPin, gate_sets}
use Rattle.state_sets.specs.Hulls.{condition_at}
use Rattle.hulls.specs.Sets.{Means, set_at}
use Rattle.hulls.specs.Conditions.{Entered}
use Rattle.hulls.specs.Boards.{OnBoard}
use Rattle.hulls.specs.Settling.{EndsTurn, KeepsAll, MayNarrow}
use Rattle.hulls.proofs.Narrowed.{ends_at_own}
use Rattle.hulls.proofs.PinCuts.{own_kept, pins_kept}

pub ends_kept : (a : StateAlgebra) (c : Circuit) (on : Entered) (circuit : IsCircuit c) (gate : ℕ) (old : OnBoard)
    (may : MayNarrow a c on gate old) (seen : List StateSet) (same : seen ≡ old.labels)
    (told : Option Condition) (is : told ≡ condition_at on.kind on.steps gate) (kept : List StateSet) (given : StateSet)
    (at_pins : (pin : ℕ) → pin < length (pins_at c gate) → Means a.count (set_at kept pin) (GivesAtPin a (gate_sets c gate seen) told pin))
    (at_gate_set : Means a.count given (GivesAtGate a (gate_sets c gate seen) told))
    → KeepsAll c gate kept given old.labels → EndsTurn a c on old old None
ends_kept a c on circuit gate old may seen same told is kept given at_pins at_gate_set keeps =
    let reads = circuit.reads_lines gate may.in_circuit in
    ends_at_own a c on circuit gate old may None tt seen same told is kept given at_pins at_gate_set old old
    (pins_kept c None a.count gate kept given old may.of.lines may.within may.some reads keeps (length (pins_at c gate)) (omega arith))
    (own_kept c None a.count gate kept given old may.of.lines may.within may.some reads keeps)
    None (may.some (gate_line c gate) (omega (arith, may.in_circuit))) tt
