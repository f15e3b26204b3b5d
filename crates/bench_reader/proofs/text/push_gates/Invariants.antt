use Rattle.std.proofs.Common.{◌≡◌, ◌++◌, map, take}
use Rattle.bench_reader.specs.Canonical.{gate_statement, statements_text}
use Rattle.bench_reader.proofs.text.push_gates.Given as goal

abbrev pub invariant-loop-gate : goal.invariant-loop-gate
invariant-loop-gate l =
    l.text.items ≡ l.fn.text.items ++ statements_text (map (gate_statement l.net) (take l.gate l.net.gates))
