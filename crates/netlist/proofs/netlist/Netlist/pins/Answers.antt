use Rattle.std.proofs.Common.{subst, sym, ◌∙◌, arith}
use Rattle.netlist.specs.Circuit.{HasLines}
use Rattle.netlist.proofs.StoredLists.{stored_of, pins-length, pins-at}
use Rattle.netlist.proofs.netlist.Netlist.pins.Goals as goal

-- there is a list for each gate
pub list-requires : goal.list-requires
list-requires c =
    let stored = stored_of c.self.invariant c.self.view_is in
    omega (arith, c.requires, pins-length c.args.self.now _ stored.pins)

-- the list that is given has the pins of the gate
pub returns-clause-pins : goal.returns-clause-pins
returns-clause-pins c =
    let stored = stored_of c.self.invariant c.self.view_is in
    c.list.ensures ∙ pins-at c.args.self.now _ stored.pins _ c.requires

-- so they read lines of the circuit
pub returns-clause-in_circuit : goal.returns-clause-in_circuit
returns-clause-in_circuit c =
    let stored = stored_of c.self.invariant c.self.view_is in
    subst (HasLines c.args.self.now) (sym (returns-clause-pins c)) (stored.circuit.reads_lines c.args.gate.0 c.requires)
