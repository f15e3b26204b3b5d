use Rattle.std.proofs.Common.{◌∙◌, arith}
use Rattle.netlist.proofs.StoredLists.{stored_of, by_line-length, by_line-at}
use Rattle.netlist.proofs.netlist.Netlist.level.Goals as goal

pub index-requires : goal.index-requires
index-requires c =
    let stored = stored_of c.self.invariant c.self.view_is in
    omega (arith, by_line-length _ _ _ stored.levels)

pub returns : goal.returns
returns c =
    let stored = stored_of c.self.invariant c.self.view_is in
    c.index.ensures ∙ by_line-at _ _ _ stored.levels _ _ c.requires
