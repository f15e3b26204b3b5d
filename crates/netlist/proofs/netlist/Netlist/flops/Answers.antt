use Rattle.std.proofs.Common.{◌<◌, subst, sym, ◌∙◌}
use Rattle.std.specs.List.{All}
use Rattle.netlist.specs.Circuit.{line_count, source_count}
use Rattle.netlist.proofs.CircuitLines.{data_lines_in_circuit, flops_are_sources}
use Rattle.netlist.proofs.StoredLists.{stored_of}
use Rattle.netlist.proofs.netlist.Netlist.flops.Goals as goal

-- each flip-flop's own line is a source
pub returns-clause-sources : goal.returns-clause-sources
returns-clause-sources c =
    let stored = stored_of c.self.invariant c.self.view_is in
    subst (All (λ flop. flop.0.0 < source_count c.args.self.now)) (sym (c.as_slice.ensures.value ∙ stored.flops))
    (flops_are_sources c.args.self.now stored.circuit)

-- and each data line is a line of the circuit
pub returns-clause-data_lines : goal.returns-clause-data_lines
returns-clause-data_lines c =
    let stored = stored_of c.self.invariant c.self.view_is in
    subst (All (λ flop. flop.1.0 < line_count c.args.self.now)) (sym (c.as_slice.ensures.value ∙ stored.flops))
    (data_lines_in_circuit c.args.self.now stored.circuit)
