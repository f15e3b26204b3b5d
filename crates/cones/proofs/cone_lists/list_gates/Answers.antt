-- One gate more.
use Rattle.std.proofs.Common.{◌∙◌, arith}
use Rattle.cones.specs.Ranks.{ranked_gate}
use Rattle.cones.proofs.Images.{images_so_far, image_more}
use Rattle.cones.proofs.cone_lists.list_gates.Goals as goal

pub push_reserved-requires : goal.push_reserved-requires
push_reserved-requires c =
    let many = images_so_far (ranked_gate c.args.order.now) c.args.numbers.now c.loop-number.number-index c.loop-number.gates.items
    c.loop-number.auto.number-index-end c.loop-number.invariant.items in
    omega (arith, many, c.loop-number.gates.ok.0, c.loop-number.invariant.capacity, c.clear.ensures.capacity, c.requires.room, c.loop-number-test.true)

pub loop-number-preserved : goal.loop-number-preserved
loop-number-preserved c = record {
  capacity = c.push_reserved.ensures.capacity ∙ c.loop-number.invariant.capacity;
  items = image_more (ranked_gate c.args.order.now) c.args.numbers.now c.loop-number.number-index 0 c.loop-number.gates.items c.push_reserved.new.self.items
      c.loop-number-test.true c.loop-number.invariant.items c.push_reserved.ensures.items;
}
