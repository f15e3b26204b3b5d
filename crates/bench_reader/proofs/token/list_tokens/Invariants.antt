use Rattle.std.proofs.Common.{length}
use Rattle.bench_reader.specs.Bytes.{code_of}
use Rattle.bench_reader.specs.Seen.{tokens_seen}
use Rattle.bench_reader.proofs.Listing.{IsListed}
use Rattle.bench_reader.proofs.token.list_tokens.Given as goal

abbrev pub invariant-loop-token : goal.invariant-loop-token
invariant-loop-token l = IsListed (code_of l.line) (tokens_seen l.tokens.items) l.rest

abbrev pub decreases-loop-token : goal.decreases-loop-token
decreases-loop-token l = length l.rest
