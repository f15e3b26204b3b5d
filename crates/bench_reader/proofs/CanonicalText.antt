-- The canonical text of a circuit has that circuit.
use Rattle.netlist.specs.Circuit.{Circuit}
use Rattle.netlist.specs.Lawful.{IsCircuit}
use Rattle.bench_reader.specs.Canonical.{bench_text, circuit_statements}
use Rattle.bench_reader.specs.Circuits.{HasCircuit}
use Rattle.bench_reader.proofs.CircuitAgain.{describes_again, listed, lawful_statements}
use Rattle.bench_reader.proofs.StatementLines.{statements_again}

-- the canonical text of a circuit has that circuit
pub canonical_text : (c : Circuit) → IsCircuit c → HasCircuit (bench_text c) c
canonical_text c is = record {
  statements = listed c;
  read = statements_again (circuit_statements c) (lawful_statements c is);
  described = describes_again c is;
}
