use Rattle.std.proofs.Common.{length}
use Rattle.bench_reader.specs.Seen.{IsBlankBefore}
use Rattle.bench_reader.proofs.token.next_token.Given as goal

abbrev pub invariant-loop-byte : goal.invariant-loop-byte
invariant-loop-byte l = IsBlankBefore l.code l.rest

abbrev pub decreases-loop-byte : goal.decreases-loop-byte
decreases-loop-byte l = length l.rest
