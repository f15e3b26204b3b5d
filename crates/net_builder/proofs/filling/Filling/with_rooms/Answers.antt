-- One room more, and in the end all lists are empty.
use Rattle.std.proofs.Common.{◌≡◌, ◌+◌, [], ◌∷◌, ◌++◌, length, sum, take, get_or, sym, ap, ap₂, subst, ◌∙◌, arith}
use Rattle.std.proofs.lemmas.List.{take_all, take_more}
use Rattle.std.proofs.lemmas.List.Sums.{sum_by_more_le, sum_by_push}
use Rattle.net_builder.specs.Filling.{FillRooms, filled_lists, rooms_within}
use Rattle.net_builder.proofs.Rooms.{begins_more, begins_of, counted_begin, empty_begin, limits_more, limits_of, rooms_are, rooms_begin}
use Rattle.net_builder.proofs.filling.Filling.with_rooms.Goals as goal

pub loop-room-preserved : goal.loop-room-preserved
loop-room-preserved c =
    let rooms = c.args.rooms.now in
    let i = c.loop-room.room-index in
    let room = get_or rooms i 0 in
    let so_far = c.loop-room.invariant in
    let more = take_more rooms i 0 (omega arith) in
    let one = sum_by_push (λ n. n) (take i rooms) room in
    let total : c.loop-room.total + room ≡ sum (take i rooms) + room = omega (arith, so_far.total) in
    let begin : c.loop-room.total ≡ 0 + sum (take i rooms) = omega (arith, so_far.total) in
    let limit : c.loop-room.total + room ≡ 0 + sum (take i rooms) + room = omega (arith, so_far.total) in
    record {
      total = total ∙ sym one ∙ ap sum (sym more);
      ends = c.push_reserved.ensures.items ∙ ap₂ (λ ends end. ends ++ end ∷ []) so_far.ends begin
          ∙ sym (begins_more 0 (take i rooms) room) ∙ ap (begins_of 0) (sym more);
      limits = c.push_reserved-in-loop-room.ensures.items ∙ ap₂ (λ limits limit. limits ++ limit ∷ []) so_far.limits limit
          ∙ sym (limits_more 0 (take i rooms) room) ∙ ap (limits_of 0) (sym more);
      end_each = omega (arith, c.push_reserved.ensures.len, so_far.end_each);
      limit_each = omega (arith, c.push_reserved-in-loop-room.ensures.len, so_far.limit_each);
      end_room = omega (arith, c.push_reserved.ensures.capacity, so_far.end_room);
      limit_room = omega (arith, c.push_reserved-in-loop-room.ensures.capacity, so_far.limit_room);
    }

pub invariant_of-result : goal.invariant_of-result
invariant_of-result c =
    let rooms = c.args.rooms.now in
    let all = take_all c.loop-room.room-index rooms (omega arith) in
    let ends = c.loop-room.invariant.ends ∙ ap (begins_of 0) all in
    let limits = c.loop-room.invariant.limits ∙ ap (limits_of 0) all in
    let total = c.loop-room.invariant.total ∙ ap sum all in
    let long : 0 + sum rooms ≡ length c.in_ok-items.items.items = omega (arith, total, c.in_ok-items.ensures.len, c.in_ok-items.items.ok.0) in
    record {
      fill = subst (FillRooms 0 c.loop-room.limits.items c.loop-room.ends.items) long
          (subst (λ l. FillRooms 0 l c.loop-room.ends.items (0 + sum rooms)) (sym limits)
          (subst (λ e. FillRooms 0 (limits_of 0 rooms) e (0 + sum rooms)) (sym ends) (rooms_begin 0 rooms)));
      few = omega (arith, long, c.requires);
    }

pub returns-clause-rooms : goal.returns-clause-rooms
returns-clause-rooms c =
    let rooms = c.args.rooms.now in
    let all = take_all c.loop-room.room-index rooms (omega arith) in
    ap (rooms_within 0) (c.loop-room.invariant.limits ∙ ap (limits_of 0) all) ∙ rooms_are 0 rooms

pub returns-clause-count : goal.returns-clause-count
returns-clause-count c =
    let rooms = c.args.rooms.now in
    let all = take_all c.loop-room.room-index rooms (omega arith) in
    ap₂ (λ limits ends. length (filled_lists c.in_ok-items.items.items 0 limits ends))
    (c.loop-room.invariant.limits ∙ ap (limits_of 0) all) (c.loop-room.invariant.ends ∙ ap (begins_of 0) all)
    ∙ counted_begin c.in_ok-items.items.items 0 rooms

pub returns-clause-empty : goal.returns-clause-empty
returns-clause-empty c =
    let rooms = c.args.rooms.now in
    let all = take_all c.loop-room.room-index rooms (omega arith) in
    λ list.
    ap₂ (λ limits ends. get_or (filled_lists c.in_ok-items.items.items 0 limits ends) list [])
    (c.loop-room.invariant.limits ∙ ap (limits_of 0) all) (c.loop-room.invariant.ends ∙ ap (begins_of 0) all)
    ∙ empty_begin c.in_ok-items.items.items 0 rooms list

pub overflow_add-total : goal.overflow_add-total
overflow_add-total c =
    omega (
      arith,
      c.loop-room.invariant.total,
      sum_by_more_le (λ n. n) c.args.rooms.now c.loop-room.room-index 0 (omega arith),
      c.requires,
    )
