-- Each list stands in its room, and all of them together have no more items than the rooms.
use Rattle.std.proofs.Common.{◌≡◌, suc, ◌+◌, [], ◌∷◌, ◌++◌, length, sum_by, get_or, sym, ap, ap₂, ◌∙◌, arith}
use Rattle.std.proofs.lemmas.List.{take_all, take_more}
use Rattle.pd_base.specs.FlatLists.{items_between}
use Rattle.net_builder.specs.Filling.{filled_lists}
use Rattle.net_builder.proofs.Rooms.{begin_of, items_before, length_between, limits_counted, lists_counted, room_at}
use Rattle.net_builder.proofs.filling.packed.Goals as goal

pub part-requires-clause-rises : goal.part-requires-clause-rises
part-requires-clause-rises c =
    let r = room_at c.args.items.now 0 c.args.limits.now c.args.ends.now c.loop-list.list c.requires.rooms (omega arith) in
    omega (arith, r.begins, c.loop-list.invariant.begins)

pub part-requires-clause-within : goal.part-requires-clause-within
part-requires-clause-within c =
    let r = room_at c.args.items.now 0 c.args.limits.now c.args.ends.now c.loop-list.list c.requires.rooms (omega arith) in
    omega (arith, r.ends_within, r.within)

pub push-requires : goal.push-requires
push-requires c =
    let items = c.args.items.now in
    let i = c.loop-list.list in
    let r = room_at items 0 c.args.limits.now c.args.ends.now i c.requires.rooms (omega arith) in
    let before = items_before items 0 c.args.limits.now c.args.ends.now i c.requires.rooms (omega arith) in
    let long = length_between items c.loop-list.begin (get_or c.args.ends.now i 0) (omega (arith, r.begins, c.loop-list.invariant.begins))
    (omega (arith, r.ends_within, r.within)) in
    omega (
      arith,
      before,
      long,
      r.begins,
      r.ends_within,
      r.within,
      c.requires.few,
      c.loop-list.invariant.begins,
      ap (sum_by length) c.loop-list.invariant.packed,
      ap length c.part.ensures,
    )

pub bounds-limits-list : goal.bounds-limits-list
bounds-limits-list c =
    omega (arith, limits_counted 0 (length c.args.items.now) c.args.limits.now c.args.ends.now c.requires.rooms)

pub loop-list-preserved : goal.loop-list-preserved
loop-list-preserved c =
    let items = c.args.items.now in
    let i = c.loop-list.list in
    let all = filled_lists items 0 c.args.limits.now c.args.ends.now in
    let r = room_at items 0 c.args.limits.now c.args.ends.now i c.requires.rooms (omega arith) in
    let many = lists_counted items 0 (length items) c.args.limits.now c.args.ends.now c.requires.rooms in
    let next : suc i ≡ i + 1 = omega arith in
    let own = ap (λ b. items_between items b (get_or c.args.ends.now i 0)) c.loop-list.invariant.begins ∙ sym r.list in
    record {
      begins = ap (begin_of 0 c.args.limits.now) next;
      packed = c.in_ok-push.ensures.ok ∙ ap₂ (λ front list. front ++ list ∷ []) c.loop-list.invariant.packed (c.part.ensures ∙ own)
          ∙ sym (take_more all i [] (omega (arith, many)));
    }

pub returns : goal.returns
returns c =
    let items = c.args.items.now in
    let many = lists_counted items 0 (length items) c.args.limits.now c.args.ends.now c.requires.rooms in
    c.loop-list.invariant.packed ∙ take_all c.loop-list.list (filled_lists items 0 c.args.limits.now c.args.ends.now) (omega (arith, many))
