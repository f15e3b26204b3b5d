use Rattle.std.proofs.Common.{◌+◌, ap, ◌∙◌, arith}
use Rattle.netlist.proofs.PinRow.{place_within}
use Rattle.netlist.proofs.StoredLists.{stored_of, pins-before}
use Rattle.netlist.proofs.netlist.Netlist.pin_place.Goals as goal

-- the place of the gate's first pin counts the pins of the gates before
pub returns-clause-place : goal.returns-clause-place
returns-clause-place c =
    let stored = stored_of c.self.invariant c.self.view_is in
    ap (λ n. n + c.args.pin.pin) (c.first_place.ensures ∙ pins-before c.args.self.now _ stored.pins c.args.pin.gate.0)

-- so it is within them all
pub returns-clause-within : goal.returns-clause-within
returns-clause-within c =
    let within = place_within c.args.self.now c.args.pin (record { in_circuit = c.requires.gate; in_gate = c.requires.pin }) in
    omega (arith, within, returns-clause-place c)
