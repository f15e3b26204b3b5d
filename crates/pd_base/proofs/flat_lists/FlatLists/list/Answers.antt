-- The list stands between its bound and the next.
use Rattle.std.proofs.Common.{◌+◌, ◌<◌, [], length, get_or, sym, ap, ap₂, ◌∙◌, add-one, arith}
use Rattle.std.proofs.lemmas.Grind.{get_or_default_zero}
use Rattle.pd_base.specs.FlatLists.{items_between}
use Rattle.pd_base.proofs.ListBounds.{lists_count, list_at}
use Rattle.pd_base.proofs.flat_lists.FlatLists.list.Goals as goal

pub index-first-requires : goal.index-first-requires
index-first-requires g c =
    let bounds = c.self.inside.bounds.items in
    omega (arith, c.requires, lists_count c.self.inside.items.items bounds c.self.invariant, ap length c.self.view_is)

pub overflow_add-at : goal.overflow_add-at
overflow_add-at g c =
    let bounds = c.self.inside.bounds.items in
    omega (
      arith,
      c.requires,
      lists_count c.self.inside.items.items bounds c.self.invariant,
      ap length c.self.view_is,
      c.type_inv,
    )

pub index-next-requires : goal.index-next-requires
index-next-requires g c =
    let bounds = c.self.inside.bounds.items in
    omega (arith, c.requires, lists_count c.self.inside.items.items bounds c.self.invariant, ap length c.self.view_is)

pub part-requires-clause-rises : goal.part-requires-clause-rises
part-requires-clause-rises g c =
    let bounds = c.self.inside.bounds.items in
    let count = lists_count c.self.inside.items.items bounds c.self.invariant in
    let below : c.args.at + 1 < length bounds = omega (arith, c.requires, count, ap length c.self.view_is) in
    let is = list_at c.self.inside.items.items bounds c.args.at c.self.invariant.rise below in
    omega (
      arith,
      is.rises,
      c.index-first.ensures ∙ get_or_default_zero bounds c.args.at c.index-first.result.now (omega arith),
      c.index-next.ensures ∙ get_or_default_zero bounds (c.args.at + 1) c.index-next.result.now below
          ∙ ap (λ at. get_or bounds at 0) (add-one c.args.at),
    )

pub part-requires-clause-within : goal.part-requires-clause-within
part-requires-clause-within g c =
    let bounds = c.self.inside.bounds.items in
    let count = lists_count c.self.inside.items.items bounds c.self.invariant in
    let below : c.args.at + 1 < length bounds = omega (arith, c.requires, count, ap length c.self.view_is) in
    let is = list_at c.self.inside.items.items bounds c.args.at c.self.invariant.rise below in
    omega (
      arith,
      is.within,
      c.as_slice.ensures.len,
      c.index-next.ensures ∙ get_or_default_zero bounds (c.args.at + 1) c.index-next.result.now below
          ∙ ap (λ at. get_or bounds at 0) (add-one c.args.at),
    )

pub returns : goal.returns
returns g c =
    let items = c.self.inside.items.items in
    let bounds = c.self.inside.bounds.items in
    let count = lists_count items bounds c.self.invariant in
    let below : c.args.at + 1 < length bounds = omega (arith, c.requires, count, ap length c.self.view_is) in
    let first = c.index-first.ensures ∙ get_or_default_zero bounds c.args.at c.index-first.result.now (omega arith) in
    let next = c.index-next.ensures ∙ get_or_default_zero bounds (c.args.at + 1) c.index-next.result.now below
    ∙ ap (λ at. get_or bounds at 0) (add-one c.args.at) in
    c.part.ensures
    ∙ ap (λ all. items_between all c.index-first.result.now c.index-next.result.now) c.as_slice.ensures.value
    ∙ ap₂ (items_between items) first next
    ∙ sym (list_at items bounds c.args.at c.self.invariant.rise below).list
    ∙ ap (λ lists. get_or lists c.args.at []) c.self.view_is
