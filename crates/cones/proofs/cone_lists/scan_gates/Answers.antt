-- No more gates are kept than have had their turn.
use Rattle.std.proofs.Common.{Bool, false, length, take, get_or, ap, ◌+◌, arith}
use Rattle.std.proofs.lemmas.Grind.{common_steps}
use Rattle.std.proofs.lemmas.List.{length-take-le}
use Rattle.std.proofs.lemmas.List.Sums.{length-filter, count_by-le-length}
use Rattle.pd_base.specs.declared.ids.GateId.{GateId}
use Rattle.cones.proofs.cone_lists.scan_gates.Goals as goal

pub push_reserved-requires : goal.push_reserved-requires
push_reserved-requires c =
    let is_marked : GateId → Bool = λ gate. get_or c.args.marks.now (c.args.sources + gate.0) false in
    let place = c.loop-gate.gate-index in
    omega (
      arith,
      length-filter is_marked (take place c.args.order.now),
      count_by-le-length is_marked (take place c.args.order.now),
      length-take-le place c.args.order.now c.loop-gate.auto.gate-index-end,
      ap length c.loop-gate.invariant.items,
      c.loop-gate.gates.ok.0,
      c.loop-gate.invariant.capacity,
      c.clear.ensures.capacity,
      c.requires.room,
      c.loop-gate-test.true,
    )

pub loop-gate-preserved : goal.loop-gate-preserved
loop-gate-preserved c = grind (arith, common_steps)
