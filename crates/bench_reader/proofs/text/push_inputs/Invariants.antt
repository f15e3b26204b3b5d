use Rattle.std.proofs.Common.{◌≡◌, ◌++◌, map, take}
use Rattle.netlist.specs.declared.raw_net.RawStmt.TheVariants.{Input}
use Rattle.bench_reader.specs.Canonical.{statements_text}
use Rattle.bench_reader.proofs.text.push_inputs.Given as goal

abbrev pub invariant-loop-line : goal.invariant-loop-line
invariant-loop-line l =
    l.text.items ≡ l.fn.text.items ++ statements_text (map Input (take l.line l.net.sources))
