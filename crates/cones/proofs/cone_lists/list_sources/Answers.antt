-- One source more.
use Rattle.std.proofs.Common.{ℕ, ◌∙◌, arith}
use Rattle.pd_base.specs.declared.ids.LineId.{LineId}
use Rattle.cones.proofs.Images.{images_so_far, image_more}
use Rattle.cones.proofs.cone_lists.list_sources.Goals as goal

abbrev source_of : ℕ → LineId
source_of number = record { 0 = number }

pub push_reserved-requires : goal.push_reserved-requires
push_reserved-requires c =
    let many = images_so_far source_of c.args.numbers.now c.loop-number.number-index c.loop-number.sources.items
    c.loop-number.auto.number-index-end c.loop-number.invariant.items in
    omega (arith, many, c.loop-number.sources.ok.0, c.loop-number.invariant.capacity, c.clear.ensures.capacity, c.requires.room, c.loop-number-test.true)

pub loop-number-preserved : goal.loop-number-preserved
loop-number-preserved c = record {
  capacity = c.push_reserved.ensures.capacity ∙ c.loop-number.invariant.capacity;
  items = image_more source_of c.args.numbers.now c.loop-number.number-index 0 c.loop-number.sources.items c.push_reserved.new.self.items
      c.loop-number-test.true c.loop-number.invariant.items c.push_reserved.ensures.items;
}
