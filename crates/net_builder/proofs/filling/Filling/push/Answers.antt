-- The item goes where its list ends, in the room that is left.
use Rattle.std.proofs.Common.{◌+◌, ◌<◌, [], ◌∷◌, ◌++◌, length, get_or, set, sym, ap, subst, ◌∙◌, arith}
use Rattle.std.proofs.lemmas.List.{get_or_read, length-set}
use Rattle.net_builder.specs.Filling.{FillRooms, filled_lists}
use Rattle.net_builder.proofs.Rooms.{lists_counted, lists_put, room_at, room_left, rooms_put}
use Rattle.net_builder.proofs.filling.Filling.push.Goals as goal

pub index-end-requires : goal.index-end-requires
index-end-requires c =
    let f = c.self.inside in
    let many = lists_counted f.items.items 0 (length f.items.items) f.limits.items f.ends.items c.self.invariant.fill in
    omega (arith, c.requires.list, ap (λ v. length v.lists) c.self.view_is, many, f.ends.ok.0)

pub index_mut-requires : goal.index_mut-requires
index_mut-requires c =
    let f = c.self.inside in
    let many = lists_counted f.items.items 0 (length f.items.items) f.limits.items f.ends.items c.self.invariant.fill in
    let within : c.args.list < length f.ends.items = omega (arith, c.requires.list, ap (λ v. length v.lists) c.self.view_is, many) in
    let end = get_or_read f.ends.items c.args.list c.index-end.result.now within c.index-end.ensures 0 in
    let r = room_at f.items.items 0 f.limits.items f.ends.items c.args.list c.self.invariant.fill within in
    let left = room_left f.items.items 0 f.limits.items f.ends.items c.args.list c.self.invariant.fill within
    (omega (arith, c.requires.room, ap (λ v. length (get_or v.lists c.args.list [])) c.self.view_is, ap (λ v. get_or v.rooms c.args.list 0) c.self.view_is)) in
    omega (arith, left, r.within, end, f.items.ok.0)

pub overflow_add-end : goal.overflow_add-end
overflow_add-end c =
    let f = c.self.inside in
    let many = lists_counted f.items.items 0 (length f.items.items) f.limits.items f.ends.items c.self.invariant.fill in
    let within : c.args.list < length f.ends.items = omega (arith, c.requires.list, ap (λ v. length v.lists) c.self.view_is, many) in
    let end = get_or_read f.ends.items c.args.list c.index-end.result.now within c.index-end.ensures 0 in
    let r = room_at f.items.items 0 f.limits.items f.ends.items c.args.list c.self.invariant.fill within in
    let left = room_left f.items.items 0 f.limits.items f.ends.items c.args.list c.self.invariant.fill within
    (omega (arith, c.requires.room, ap (λ v. length (get_or v.lists c.args.list [])) c.self.view_is, ap (λ v. get_or v.rooms c.args.list 0) c.self.view_is)) in
    omega (arith, left, r.within, end, c.self.invariant.few)

pub index_mut-requires-2 : goal.index_mut-requires-2
index_mut-requires-2 c =
    let f = c.self.inside in
    let many = lists_counted f.items.items 0 (length f.items.items) f.limits.items f.ends.items c.self.invariant.fill in
    omega (arith, c.requires.list, ap (λ v. length v.lists) c.self.view_is, many, f.ends.ok.0)

pub invariant_of-self : goal.invariant_of-self
invariant_of-self c =
    let f = c.self.inside in
    let many = lists_counted f.items.items 0 (length f.items.items) f.limits.items f.ends.items c.self.invariant.fill in
    let within : c.args.list < length f.ends.items = omega (arith, c.requires.list, ap (λ v. length v.lists) c.self.view_is, many) in
    let end = get_or_read f.ends.items c.args.list c.index-end.result.now within c.index-end.ensures 0 in
    let left = room_left f.items.items 0 f.limits.items f.ends.items c.args.list c.self.invariant.fill within
    (omega (arith, c.requires.room, ap (λ v. length (get_or v.lists c.args.list [])) c.self.view_is, ap (λ v. get_or v.rooms c.args.list 0) c.self.view_is)) in
    let long = length-set f.items.items c.index-end.result.now c.args.item in
    record {
      fill = subst (FillRooms 0 f.limits.items (set f.ends.items c.args.list (c.index-end.result.now + 1))) (sym long)
          (subst (λ n. FillRooms 0 f.limits.items (set f.ends.items c.args.list (n + 1)) (length f.items.items)) (sym end)
          (rooms_put 0 (length f.items.items) f.limits.items f.ends.items c.args.list c.self.invariant.fill within left));
      few = omega (arith, long, c.self.invariant.few);
    }

pub returns-clause-lists : goal.returns-clause-lists
returns-clause-lists c =
    let f = c.self.inside in
    let lists = filled_lists f.items.items 0 f.limits.items f.ends.items in
    let many = lists_counted f.items.items 0 (length f.items.items) f.limits.items f.ends.items c.self.invariant.fill in
    let within : c.args.list < length f.ends.items = omega (arith, c.requires.list, ap (λ v. length v.lists) c.self.view_is, many) in
    let end = get_or_read f.ends.items c.args.list c.index-end.result.now within c.index-end.ensures 0 in
    let left = room_left f.items.items 0 f.limits.items f.ends.items c.args.list c.self.invariant.fill within
    (omega (arith, c.requires.room, ap (λ v. length (get_or v.lists c.args.list [])) c.self.view_is, ap (λ v. get_or v.rooms c.args.list 0) c.self.view_is)) in
    ap (λ n. filled_lists (set f.items.items n c.args.item) 0 f.limits.items (set f.ends.items c.args.list (n + 1))) end
    ∙ lists_put f.items.items c.args.item 0 f.limits.items f.ends.items c.args.list c.self.invariant.fill within left
    ∙ ap (λ v. set v.lists c.args.list (get_or v.lists c.args.list [] ++ c.args.item ∷ [])) c.self.view_is
