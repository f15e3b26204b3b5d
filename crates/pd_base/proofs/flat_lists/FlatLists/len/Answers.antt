-- There is one bound more than lists.
use Rattle.std.proofs.Common.{length, ap, arith}
use Rattle.pd_base.proofs.ListBounds.{lists_count}
use Rattle.pd_base.proofs.flat_lists.FlatLists.len.Goals as goal

pub returns : goal.returns
returns g c =
    omega (
      arith,
      c.len.ensures,
      lists_count c.self.inside.items.items c.self.inside.bounds.items c.self.invariant,
      ap length c.self.view_is,
    )
