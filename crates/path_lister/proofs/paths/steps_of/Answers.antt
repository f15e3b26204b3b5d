-- One step more is listed.
use Rattle.std.proofs.Common.{arith}
use Rattle.std.proofs.lemmas.Grind.{common_steps}
use Rattle.path_lister.proofs.paths.steps_of.Goals as goal

pub loop-arc-preserved : goal.loop-arc-preserved
loop-arc-preserved c = record {
  listed = grind (arith, common_steps);
  each = omega (arith, c.push_reserved.ensures.len, c.loop-arc.invariant.each);
  room = omega (arith, c.push_reserved.ensures.capacity, c.loop-arc.invariant.room);
}

pub push_reserved-requires : goal.push_reserved-requires
push_reserved-requires c = omega (arith, c.loop-arc.invariant.each, c.loop-arc.invariant.room, c.loop-arc-test.true)

pub returns : goal.returns
returns c = grind (arith, common_steps)
