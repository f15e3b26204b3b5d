use Rattle.std.proofs.Common.{◌≡◌, ◌+◌, drop}
use Rattle.std.specs.List.{prefix_len}
use Rattle.bench_reader.specs.Bytes.{is_part}
use Rattle.bench_reader.proofs.token.name_length.Given as goal

abbrev pub invariant-loop-index : goal.invariant-loop-index
invariant-loop-index l = l.index + prefix_len is_part (drop l.index l.code) ≡ prefix_len is_part l.code
