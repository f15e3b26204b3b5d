use Rattle.std.proofs.Common.{length}
use Rattle.bench_reader.proofs.Gathering.{IsGathered}
use Rattle.bench_reader.proofs.statements.read_statements.Given as goal

abbrev pub invariant-loop-rest : goal.invariant-loop-rest
invariant-loop-rest l = IsGathered l.bytes l.raw l.number l.rest

abbrev pub decreases-loop-rest : goal.decreases-loop-rest
decreases-loop-rest l = length l.rest
