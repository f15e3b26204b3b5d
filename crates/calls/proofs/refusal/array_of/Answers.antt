-- One part more stands there.
use Rattle.std.proofs.Common.{arith}
use Rattle.std.proofs.Math.ListN.{length-set}
use Rattle.calls.proofs.Pieces.{one_more_put}
use Rattle.calls.proofs.refusal.array_of.Goals as goal

pub loop-index-preserved : goal.loop-index-preserved
loop-index-preserved c = record {
  room = simp length-set c.loop-index.invariant.room;
  filled = one_more_put c.loop-index.array c.args.parts.now c.loop-index.index _ c.loop-index.invariant.filled (omega arith) (omega arith);
}
