use Rattle.std.proofs.Common.{◌≡◌, ◌<◌, ◌≤◌, length}
use Rattle.pd_io.specs.Counts.{greatest_count}
use Rattle.pd_io.proofs.Handing.{Handed}
use Rattle.pd_io.proofs.sink.write_all.Given as goal

-- a front of the bytes went to the sink, and no call failed
abbrev pub invariant-loop-rest : goal.invariant-loop-rest
invariant-loop-rest g l = record {
  handed : Handed (g.S.Sink.taken l.fn.sink) (g.S.Sink.taken l.sink) l.bytes l.rest;
  unchanged : g.S.Sink.faults l.sink ≡ g.S.Sink.faults l.fn.sink;
  counted : length l.rest < length l.bytes → g.S.Sink.faults l.sink ≤ greatest_count;
}

-- fewer bytes are left each time
abbrev pub decreases-loop-rest : goal.decreases-loop-rest
decreases-loop-rest g l = length l.rest
