-- The items of a list go behind the others, and its end behind the bounds.
use Rattle.std.proofs.Common.{◌≡◌, ◌++◌, [], ◌∷◌, length, sum_by, subst, sym, ap, ap₂, ◌∙◌, arith}
use Rattle.std.proofs.lemmas.List.{length-append}
use Rattle.pd_base.specs.FlatLists.{AreBounds, lists_within}
use Rattle.pd_base.proofs.ListBounds.{items_count, lists_more, bounds_more}
use Rattle.pd_base.proofs.flat_lists.FlatLists.push.Goals as goal

pub overflow_cast-len : goal.overflow_cast-len
overflow_cast-len g c =
    let items = c.self.inside.items.items in
    omega (
      arith,
      c.requires,
      c.len.ensures,
      ap length c.in_ok-extend_from_slice.ensures.items,
      length-append items c.args.list.now,
      items_count items c.self.inside.bounds.items c.self.invariant,
      ap (sum_by length) c.self.view_is,
    )

pub invariant_of-self-2 : goal.invariant_of-self-2
invariant_of-self-2 g c =
    let items = c.self.inside.items.items in
    let bounds = c.self.inside.bounds.items in
    let longer = c.in_ok-extend_from_slice.ensures.items in
    let count : c.len.result ≡ length (items ++ c.args.list.now) = omega (arith, c.len.ensures, ap length longer) in
    let further = c.push_reserved.ensures.items
    ∙ ap₂ (λ all end. all ++ end ∷ []) c.reserve.ensures.items count in
    subst (λ all. AreBounds all c.push_reserved.new.self.items) (sym longer)
    (subst (AreBounds (items ++ c.args.list.now)) (sym further) (bounds_more items c.args.list.now bounds c.self.invariant))

pub returns-clause-ok : goal.returns-clause-ok
returns-clause-ok g c =
    let items = c.self.inside.items.items in
    let bounds = c.self.inside.bounds.items in
    let longer = c.in_ok-extend_from_slice.ensures.items in
    let count : c.len.result ≡ length (items ++ c.args.list.now) = omega (arith, c.len.ensures, ap length longer) in
    let further = c.push_reserved.ensures.items
    ∙ ap₂ (λ all end. all ++ end ∷ []) c.reserve.ensures.items count in
    ap₂ lists_within longer further
    ∙ lists_more items c.args.list.now bounds c.self.invariant.rise
    ∙ ap (λ lists. lists ++ c.args.list.now ∷ []) c.self.view_is
