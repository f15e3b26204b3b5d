use Rattle.std.proofs.Common.{◌≡◌, ◌++◌, map, take}
use Rattle.bench_reader.specs.Canonical.{output_statement, statements_text}
use Rattle.bench_reader.proofs.text.push_outputs.Given as goal

abbrev pub invariant-loop-line : goal.invariant-loop-line
invariant-loop-line l =
    l.text.items ≡ l.fn.text.items ++ statements_text (map (output_statement l.net) (take l.line-index l.outputs))
