use Rattle.std.proofs.Common.{◌≢◌, subst, sym, ◌∙◌}
use Rattle.std.specs.List.{AllPairs}
use Rattle.netlist.specs.Circuit.{HasLines}
use Rattle.netlist.proofs.CircuitLines.{observed_in_circuit, observed_once}
use Rattle.netlist.proofs.StoredLists.{stored_of}
use Rattle.netlist.proofs.netlist.Netlist.observed.Goals as goal

-- the list that is given has lines of the circuit
pub returns-clause-in_circuit : goal.returns-clause-in_circuit
returns-clause-in_circuit c =
    let stored = stored_of c.self.invariant c.self.view_is in
    subst (HasLines c.args.self.now) (sym (c.as_slice.ensures.value ∙ stored.observed))
    (observed_in_circuit c.args.self.now stored.circuit)

-- and each once
pub returns-clause-once : goal.returns-clause-once
returns-clause-once c =
    let stored = stored_of c.self.invariant c.self.view_is in
    subst (AllPairs (λ a b. a ≢ b)) (sym (c.as_slice.ensures.value ∙ stored.observed)) (observed_once c.args.self.now)
