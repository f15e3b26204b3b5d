-- The path of one walk more is there.
use Rattle.std.proofs.Common.{arith}
use Rattle.std.proofs.lemmas.Grind.{common_steps}
use Rattle.path_lister.proofs.paths.paths_of.Goals as goal

pub loop-place-preserved : goal.loop-place-preserved
loop-place-preserved c = record {
  listed = grind (arith, common_steps);
  each = omega (arith, c.push_reserved.ensures.len, c.loop-place.invariant.each);
  room = omega (arith, c.push_reserved.ensures.capacity, c.loop-place.invariant.room);
}

pub push_reserved-requires : goal.push_reserved-requires
push_reserved-requires c =
    omega (arith, c.loop-place.invariant.each, c.loop-place.invariant.room, c.loop-place-test.true, c.len-place-end.ensures)

pub returns : goal.returns
returns c = grind (arith, common_steps)
