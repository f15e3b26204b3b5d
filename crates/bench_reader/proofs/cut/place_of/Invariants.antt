use Rattle.std.proofs.Common.{◌≡◌, ◌+◌, ◌==◌, drop}
use Rattle.std.specs.List.{position_or_len}
use Rattle.bench_reader.proofs.cut.place_of.Given as goal

abbrev pub invariant-loop-index : goal.invariant-loop-index
invariant-loop-index l =
    l.index + position_or_len (λ other. other == l.byte) (drop l.index l.bytes) ≡ position_or_len (λ other. other == l.byte) l.bytes
