-- All items are in some list.
use Rattle.std.proofs.Common.{length, sum_by, ap, arith}
use Rattle.pd_base.proofs.ListBounds.{items_count}
use Rattle.pd_base.proofs.flat_lists.FlatLists.item_count.Goals as goal

pub returns : goal.returns
returns g c =
    omega (
      arith,
      c.len.ensures,
      items_count c.self.inside.items.items c.self.inside.bounds.items c.self.invariant,
      ap (sum_by length) c.self.view_is,
    )
